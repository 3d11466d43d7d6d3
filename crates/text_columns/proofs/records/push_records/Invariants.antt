use Rattle.std.proofs.Common.{◌≤◌, ℕ, List, [], length}
use Rattle.arrow_schema.specs.View.{schema_of}
use Rattle.text_import.specs.Stands.{HasLeft}
use Rattle.text_columns.specs.inner.Batches.{HoldRows}
use Rattle.text_columns.proofs.Rows.{ByReader, Read}
use Rattle.text_import.specs.FieldForm.{field_form}
use Rattle.text_columns.proofs.records.push_records.Given as goal

abbrev pub invariant-loop-index : goal.invariant-loop-index
invariant-loop-index l = record {
  few : l.weight ≤ 268435456;
  read : (records : List (List (List ℕ)))
      → HasLeft l.fn.reader records
      → length records ≤ l.most
      → HoldRows (schema_of l.schema) [] l.initial.batches
      → Read (ByReader l.reader l.index l.most) (schema_of l.schema) (field_form l.form) records l.index l.weight l.batches;
}
