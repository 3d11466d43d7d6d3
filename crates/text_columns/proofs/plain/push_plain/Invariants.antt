use Rattle.std.proofs.Common.{◌≤◌, length}
use Rattle.text_columns.proofs.PlainRows.{Begun}
use Rattle.text_import.specs.FieldForm.{field_form}
use Rattle.text_columns.proofs.plain.push_plain.Given as goal

abbrev pub invariant-loop-i : goal.invariant-loop-i
invariant-loop-i l = record {
  some : 1 ≤ l.weight;
  few : l.weight ≤ 16777216;
  within : l.at ≤ length l.text;
  begun : Begun l.text (field_form l.form) l.from l.at l.i l.weight l.initial.builders l.builders;
}
