use Rattle.std.proofs.Common.{◌≡◌, ◌+◌, ◌-◌, ◌≤◌, ℕ, List, map, length}
use Rattle.arrow_schema.specs.View.{schema_of}
use Rattle.cells.specs.Row.{row_of}
use Rattle.text_import.specs.Rows.{rows_from}
use Rattle.text_import.specs.Records.{record_row}
use Rattle.text_import.specs.Stands.{HasLeft}
use Rattle.text_import.specs.laws.Behind.{behind}
use Rattle.text_import.proofs.records.record_rows.Given as goal
use Rattle.text_import.specs.FieldForm.{field_form}

-- the rows so far, and the records that are left
abbrev pub invariant-loop-index : goal.invariant-loop-index
invariant-loop-index l =
    (records : List (List (List ℕ)))
    → HasLeft l.fn.reader records
    → length records ≤ l.most
    → (left : List (List (List ℕ)))
    × HasLeft l.reader left
    × (length left ≤ l.most - l.index)
    × (behind (map row_of l.rows.items) (rows_from (record_row (schema_of l.schema) (field_form l.form)) (l.index + 1) left) ≡ rows_from (record_row (schema_of l.schema) (field_form l.form)) 1 records)
