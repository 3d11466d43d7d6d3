use Rattle.std.proofs.Common.{◌≡◌, map, drop}
use Rattle.csv.specs.Records.{fields_of}
use Rattle.arrow_schema.specs.View.{column_of}
use Rattle.text_import.specs.Part.{refused_field}
use Rattle.text_import.proofs.part.refused_field.Given as goal
use Rattle.text_import.specs.FieldForm.{field_form}

abbrev pub invariant-loop-i : goal.invariant-loop-i
invariant-loop-i l = refused_field (field_form l.form) l.i (map column_of (drop l.i l.fields)) (drop l.i (fields_of l.row)) ≡ refused_field (field_form l.form) 0 (map column_of l.fields) (fields_of l.row)
