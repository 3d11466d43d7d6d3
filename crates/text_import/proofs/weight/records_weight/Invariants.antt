use Rattle.std.proofs.Common.{◌+◌, ◌-◌, ◌≤◌, ℕ, List, length}
use Rattle.arrow_schema.specs.View.{schema_of}
use Rattle.text_import.specs.Records.{record_row}
use Rattle.text_import.specs.Rows.{rows_from}
use Rattle.text_import.specs.Stands.{HasLeft}
use Rattle.text_import.proofs.WeightLemmas.{RowsWeighed}
use Rattle.text_import.proofs.weight.records_weight.Given as goal
use Rattle.text_import.specs.FieldForm.{field_form}

-- the rows so far are weighed, and these records are left
abbrev pub invariant-loop-index : goal.invariant-loop-index
invariant-loop-index l =
    (records : List (List (List ℕ)))
    → HasLeft l.fn.reader records
    → length records ≤ l.most
    → (left : List (List (List ℕ)))
    × HasLeft l.reader left
    × (length left ≤ l.most - l.index)
    × RowsWeighed (schema_of l.schema) (record_row (schema_of l.schema) (field_form l.form)) (rows_from (record_row (schema_of l.schema) (field_form l.form)) 1 records) (l.index + 1) left l.weight
