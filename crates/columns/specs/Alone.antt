-- The dictionaries of written arrays: each is the one array of a batch of rows of one cell, the entries.
use Rattle.std.specs.Prelude.{◌≡◌, ◌≤◌, ℕ, true, List, sum_by}
use Rattle.std.specs.List.{list_all}
use Rattle.arrow_schema.specs.Column.{Column, Columns, no_column, and_column}
use Rattle.cells.specs.Cell.{Cell, cells_of}
use Rattle.cells.specs.Fit.{each_fits}
use Rattle.cells.specs.Weight.{parts_weight}
use Rattle.columns.specs.Array.{Arrays, no_array, and_array}
use Rattle.columns.specs.Tests.{Typed}
use Rattle.columns.specs.Built.{built_parts}
use Rattle.columns.specs.Buildable.{can_build_rows}

-- the weight of all cells of some rows
abbrev pub cells_weight : Columns → List (List Cell) → ℕ
cells_weight columns rows = sum_by (λ row. parts_weight columns (cells_of row)) rows

-- a list of this column alone
abbrev pub alone : Column → Columns
alone c = and_column c no_column

-- the column and the array, as those of a batch with one column
abbrev pub own_column : Typed → Columns
own_column t = alone t.column

abbrev pub own_array : Typed → Arrays
own_array t = and_array t.array no_array

-- some rows of one column can be built, fit the column and weigh at most this much, and the array is the one built from them
pub record IsBuiltAlone (most : ℕ) (t : Typed) : Type 0 where
  pub rows : List (List Cell)
  pub array : own_array t ≡ built_parts (own_column t) rows
  pub can : can_build_rows (own_column t) rows ≡ true
  pub fit : list_all (λ row. each_fits (own_column t) (cells_of row)) rows ≡ true
  pub weighs : cells_weight (own_column t) rows ≤ most
