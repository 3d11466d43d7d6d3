use Rattle.std.proofs.Common.{◌≡◌, ◌≤◌, length, map, drop, vec_len, vec_capacity}
use Rattle.csv.specs.Records.{fields_of}
use Rattle.arrow_schema.specs.View.{column_of}
use Rattle.cells.specs.View.{cell}
use Rattle.text_import.specs.Records.{field_cells}
use Rattle.text_import.specs.laws.Behind.{behind}
use Rattle.text_import.proofs.records.field_cells.Given as goal
use Rattle.text_import.specs.FieldForm.{field_form}

abbrev pub invariant-loop-i : goal.invariant-loop-i
invariant-loop-i l = record {
  cells : behind (map cell l.cells.items) (field_cells (field_form l.form) (map column_of (drop l.i l.fields)) (drop l.i (fields_of l.row)))
      ≡ field_cells (field_form l.form) (map column_of l.fields) (fields_of l.row);
  len : vec_len l.cells ≡ l.i;
  room : length l.fields ≤ vec_capacity l.cells;
}
