use Rattle.std.proofs.Common.{◌≤◌, List}
use Rattle.csv.specs.Records.{fields_of}
use Rattle.arrow_schema.specs.Column.{Column}
use Rattle.cells.specs.Cell.{Cell}
use Rattle.text_columns.specs.inner.Kept.{KeepAll}
use Rattle.text_columns.proofs.Rows.{Half}
use Rattle.text_import.specs.FieldForm.{field_form}
use Rattle.text_columns.proofs.records.push_fields.Given as goal

abbrev pub invariant-loop-i : goal.invariant-loop-i
invariant-loop-i l = record {
  some : 1 ≤ l.weight;
  few : l.weight ≤ 16777216;
  half : (cs : List Column) (rows : List (List Cell)) → KeepAll cs rows l.initial.builders → Half cs (field_form l.form) (fields_of l.row) rows l.i l.weight l.builders;
}
