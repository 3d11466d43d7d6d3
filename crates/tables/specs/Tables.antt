-- The tables of a store: a finite map from names to tables. Two maps with the same table at each name are equal.
use Rattle.std.specs.Prelude.{◌≡◌, ℕ, Bool, List, map, length, Option, Some, is_some}
use Rattle.std.specs.Ordering.{nat_cmp}
use Rattle.std.specs.Cmp.Lexicographic.{slice_cmp}
use Rattle.std.specs.FinMap as maps
use Rattle.cells.specs.Cell.{PlainTable}
use Rattle.values.specs.Table.{IsTable}

-- names are compared by their bytes
abbrev pub Tables : Type 0
Tables = maps.FinMap (slice_cmp nat_cmp) PlainTable

abbrev pub no_tables : Tables
no_tables = maps.empty

abbrev pub table_at : Tables → List ℕ → Option PlainTable
table_at t name = maps.get t name

abbrev pub has_table : Tables → List ℕ → Bool
has_table t name = is_some (table_at t name)

-- with this table at this name, replacing any table there
abbrev pub with_table : Tables → List ℕ → PlainTable → Tables
with_table t name table = maps.insert t name table

abbrev pub without_table : Tables → List ℕ → Tables
without_table t name = maps.remove t name

abbrev pub table_count : Tables → ℕ
table_count t = maps.len t

-- the names and row counts of the tables, in byte order of the names
abbrev pub row_counts : Tables → List (List ℕ × ℕ)
row_counts t = map (λ e. (e.0, length e.1.rows)) (maps.entries t)

-- each of them fulfils `IsTable`
abbrev pub AreTables : Tables → Type 0
AreTables t = (name : List ℕ) (table : PlainTable) → table_at t name ≡ Some table → IsTable table
