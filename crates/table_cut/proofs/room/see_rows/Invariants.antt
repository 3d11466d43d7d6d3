use Rattle.std.proofs.Common.{◌++◌, List, take}
use Rattle.arrow_schema.specs.Column.{columns_of}
use Rattle.arrow_schema.specs.View.{schema_of}
use Rattle.cells.specs.Cell.{Cell}
use Rattle.table_cut.specs.Rows.{run_rows}
use Rattle.table_cut.specs.SeenRows.{HaveSeen}
use Rattle.table_cut.proofs.room.see_rows.Given as goal

abbrev pub invariant-loop-i : goal.invariant-loop-i
invariant-loop-i l =
    let s = schema_of l.schema in
    (rows : List (List Cell)) → HaveSeen s rows l.fn.seen → HaveSeen s (rows ++ take l.i (run_rows (columns_of s.columns) l.run)) l.seen
