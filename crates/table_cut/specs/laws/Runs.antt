-- Rows of runs.
use Rattle.std.proofs.Common.{◌≡◌, length}
use Rattle.std.proofs.lemmas.List.FromFn.{length-map-range_with_len}
use Rattle.arrow_schema.specs.Column.{Columns}
use Rattle.columns.specs.CellAt.{row_at}
use Rattle.table_cut.specs.Rows.{arrays_of_run, run_rows}
use Rattle.table_cut.specs.declared.row_run.RowRun.{RowRun}

pub run_size : (cs : Columns) (run : RowRun) → length (run_rows cs run) ≡ run.len
run_size cs run = length-map-range_with_len (row_at cs (arrays_of_run run)) run.from run.len
