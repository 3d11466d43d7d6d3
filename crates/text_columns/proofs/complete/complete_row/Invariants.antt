use Rattle.std.proofs.Common.{◌≤◌, List}
use Rattle.serde_json.specs.Data.{Members}
use Rattle.arrow_schema.specs.Column.{Column}
use Rattle.cells.specs.Cell.{Cell}
use Rattle.civil_days.specs.declared.date_form.DateForm.{DateForm}
use Rattle.text_columns.specs.inner.Lines.{HoldMembers}
use Rattle.text_columns.proofs.LineRows.{NamedHalf}
use Rattle.text_columns.proofs.complete.complete_row.Given as goal

abbrev pub invariant-loop-i : goal.invariant-loop-i
invariant-loop-i l = record {
  some : 1 ≤ l.weight;
  few : l.weight ≤ 16777216;
  half : (date_form : DateForm) (cs : List Column) (rows : List (List Cell)) (found : Members) → HoldMembers date_form cs rows found l.weights l.initial.builders → NamedHalf date_form cs found rows l.i l.weight l.weights l.builders;
}
