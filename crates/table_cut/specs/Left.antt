-- The rows that are left of a table, and a piece of them.
use Rattle.std.specs.Prelude.{List, drop}
use Rattle.arrow_schema.specs.Column.{Columns}
use Rattle.cells.specs.Cell.{Cell}
use Rattle.table_cut.specs.declared.left.RowsLeft.{RowsLeft}
use Rattle.table_cut.specs.declared.row_run.RowRun.{RowRun}
use Rattle.table_cut.specs.Rows.{runs_rows}

abbrev pub runs_left : RowsLeft → List RowRun
runs_left left = drop left.next left.runs.items

abbrev pub rows_left : Columns → RowsLeft → List (List Cell)
rows_left columns left = runs_rows columns (runs_left left)
