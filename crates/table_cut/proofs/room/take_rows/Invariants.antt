use Rattle.std.proofs.Common.{◌≡◌, ◌++◌, true, List, take}
use Rattle.arrow_schema.specs.Column.{columns_of}
use Rattle.arrow_schema.specs.View.{schema_of}
use Rattle.cells.specs.Cell.{Cell}
use Rattle.cells.specs.Dictionary.{dictionaries_fit}
use Rattle.table_cut.specs.Rows.{run_rows}
use Rattle.table_cut.specs.SeenRows.{HaveSeen}
use Rattle.table_cut.proofs.room.take_rows.Given as goal

-- the rows so far were gone through, and the dictionaries have room for them
abbrev pub invariant-loop-i : goal.invariant-loop-i
invariant-loop-i l =
    let s = schema_of l.schema in
    let taken = take l.i (run_rows (columns_of s.columns) l.run) in
    record {
      seen : (rows : List (List Cell)) → HaveSeen s rows l.fn.seen → HaveSeen s (rows ++ taken) l.seen;
      fits : (rows : List (List Cell)) → HaveSeen s rows l.fn.seen → dictionaries_fit s rows ≡ true → dictionaries_fit s (rows ++ taken) ≡ true;
    }
