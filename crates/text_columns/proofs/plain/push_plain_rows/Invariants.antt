use Rattle.std.proofs.Common.{◌≤◌, ℕ, List, [], length}
use Rattle.arrow_schema.specs.View.{schema_of}
use Rattle.text_columns.specs.inner.Batches.{HoldRows}
use Rattle.text_columns.proofs.PlainRows.{InText}
use Rattle.text_columns.proofs.Rows.{Read}
use Rattle.text_import.specs.FieldForm.{field_form}
use Rattle.text_columns.proofs.plain.push_plain_rows.Given as goal

abbrev pub invariant-loop-rows : goal.invariant-loop-rows
invariant-loop-rows l = record {
  few : l.weight ≤ 268435456;
  within : l.at ≤ length l.text;
  read : (records : List (List (List ℕ)))
      → InText l.text l.from records
      → HoldRows (schema_of l.schema) [] l.initial.batches
      → Read (InText l.text l.at) (schema_of l.schema) (field_form l.form) records l.rows l.weight l.batches;
}
