-- The rows of runs of rows.
use Rattle.std.specs.Prelude.{◌+◌, Bool, List, map}
use Rattle.std.specs.List.{flat_map, list_all, range_with_len}
use Rattle.arrow_schema.specs.Column.{Columns, columns_of, PlainSchema}
use Rattle.cells.specs.Cell.{Cell, PlainTable}
use Rattle.columns.specs.Array.{Arrays}
use Rattle.columns.specs.CellAt.{row_at}
use Rattle.columns.specs.Sound.{are_sound}
use Rattle.columns.specs.View.{placed_arrays}
use Rattle.table_cut.specs.declared.row_run.RowRun.{RowRun}

-- the arrays of the batch that a run is of
abbrev pub arrays_of_run : RowRun → Arrays
arrays_of_run r = placed_arrays r.bytes.now r.dictionaries.now r.arrays.now

abbrev pub run_rows : Columns → RowRun → List (List Cell)
run_rows columns r = map (row_at columns (arrays_of_run r)) (range_with_len r.from r.len)

-- the rows of some runs, in order
abbrev pub runs_rows : Columns → List RowRun → List (List Cell)
runs_rows columns runs = flat_map (run_rows columns) runs

abbrev pub runs_table : PlainSchema → List RowRun → PlainTable
runs_table s runs = record { schema = s; rows = runs_rows (columns_of s.columns) runs }

-- its slots can be looked up
abbrev pub is_run_sound : Columns → RowRun → Bool
is_run_sound columns r = are_sound columns (r.from + r.len) (arrays_of_run r)

abbrev pub are_runs_sound : Columns → List RowRun → Bool
are_runs_sound columns runs = list_all (is_run_sound columns) runs
