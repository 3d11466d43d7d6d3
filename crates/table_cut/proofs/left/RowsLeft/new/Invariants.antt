use Rattle.std.proofs.Common.{◌≡◌, true, take}
use Rattle.arrow_schema.specs.Column.{Columns}
use Rattle.table_cut.specs.Rows.{runs_rows, are_runs_sound}
use Rattle.values.specs.Parts.{parts_rows, are_parts_sound}
use Rattle.table_cut.proofs.left.RowsLeft.new.Given as goal

abbrev pub invariant-loop-part : goal.invariant-loop-part
invariant-loop-part l = record {
  rows : (columns : Columns) → runs_rows columns l.runs.items ≡ parts_rows columns (take l.part-index l.parts);
  sound : (columns : Columns) → are_parts_sound columns (take l.part-index l.parts) ≡ true → are_runs_sound columns l.runs.items ≡ true;
}
