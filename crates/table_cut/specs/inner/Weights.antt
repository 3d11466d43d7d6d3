-- What the rows of a run weigh.
use Rattle.std.specs.Prelude.{ℕ, ◌+◌, List, take}
use Rattle.arrow_schema.specs.Column.{PlainSchema, columns_of}
use Rattle.cells.specs.Weight.{row_weight, table_weight}
use Rattle.columns.specs.CellAt.{row_at}
use Rattle.table_cut.specs.Rows.{arrays_of_run, run_rows, runs_rows}
use Rattle.table_cut.specs.declared.row_run.RowRun.{RowRun}

-- the weight of the first `rows` of them
abbrev pub front_weight : PlainSchema → RowRun → (rows : ℕ) → ℕ
front_weight s run rows = table_weight s (take rows (run_rows (columns_of s.columns) run))

-- the weight of the one at a place
abbrev pub weight_at : PlainSchema → RowRun → ℕ → ℕ
weight_at s run i = row_weight s (row_at (columns_of s.columns) (arrays_of_run run) (run.from + i))

-- the weight of the rows of runs
abbrev pub piece_weight : PlainSchema → List RowRun → ℕ
piece_weight s runs = table_weight s (runs_rows (columns_of s.columns) runs)
