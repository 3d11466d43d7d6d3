-- Bounds of what the rows of a run weigh, column by column.
use Rattle.std.specs.Prelude.{◌≡◌, ◌≤◌, ◌+◌, ℕ, sum_by}
use Rattle.arrow_schema.specs.Column.{Column, Columns, no_column, and_column}
use Rattle.cells.specs.Weight.{weight}
use Rattle.columns.specs.CellAt.{cell_at, cells_from}
use Rattle.table_cut.specs.declared.bound.Weighed.{Weighed}
use Rattle.table_cut.specs.declared.bound.Weighed.TheVariants.{Exactly, AtMost}
use Rattle.table_cut.specs.declared.row_run.RowRun.{RowRun}
use Rattle.table_cut.specs.inner.Columns.{array_at}

-- something weighs this much, or no more
abbrev pub Weighs : Weighed → ℕ → Type 0
Weighs (Exactly w) n = w ≡ n
Weighs (AtMost w) n = n ≤ w

-- the weight of the column at a place in the first `rows` rows of a run
abbrev pub column_weight : ℕ → Column → RowRun → (rows : ℕ) → ℕ
column_weight j c r rows = sum_by (weight c) (cells_from (cell_at c (array_at j r)) r.from rows)

-- the weight of all columns from a place on
unfoldable pub columns_weight : ℕ → Columns → RowRun → (rows : ℕ) → ℕ
columns_weight j no_column r rows = 0
columns_weight j (and_column c cs) r rows = column_weight j c r rows + columns_weight (j + 1) cs r rows
