-- The rows of a CSV text, over the records that the crate `csv` reads from it (RFC 4180; comma, fields in double quotes).
use Rattle.std.specs.Prelude.{ℕ, ◌==◌, Bool, true, false, bytes_eq, List, [], ◌∷◌, length, Result, Ok, Err, if◌then◌else◌}
use Rattle.std.specs.List.{list_any}
use Rattle.csv.specs.Reading.{default_config, records, strip_bom}
use Rattle.arrow_schema.specs.Column.{Column, PlainSchema}
use Rattle.arrow_schema.specs.Limits.{is_nested}
use Rattle.arrow_schema.specs.Parts.{name_of_column, kind_of_column}
use Rattle.cells.specs.Cell.{Cell}
use Rattle.text_import.specs.declared.refusal.Refusal.{Refusal}
use Rattle.text_import.specs.declared.refusal.Refusal.TheVariants.{Header, Width, Nested}
use Rattle.text_import.specs.declared.refusal.Refused.{Refused}
use Rattle.text_import.specs.Refusals.{and_then, given}
use Rattle.text_import.specs.Flat.{field_cell}
use Rattle.text_import.specs.Rows.{accepted, rows_from}
use Rattle.text_import.specs.FieldForm.{PlainFieldForm}

abbrev pub is_nested_column : Column → Bool
is_nested_column c = is_nested (kind_of_column c)

-- the fields of a record are the names of the columns in order
unfoldable pub are_names : List (List ℕ) → List Column → Bool
are_names [] [] = true
are_names (t ∷ ts) (c ∷ cs) = if bytes_eq t (name_of_column c) then are_names ts cs else false
are_names [] (c ∷ cs) = false
are_names (t ∷ ts) [] = false

-- a cell for each column, or the first that is refused
unfoldable pub field_cells : PlainFieldForm → List Column → List (List ℕ) → Result (List Cell) Refusal
field_cells form [] ts = Ok []
field_cells form (c ∷ cs) [] = Err Width
field_cells form (c ∷ cs) (t ∷ ts) = and_then (field_cell form c t) (λ x. given (λ xs. x ∷ xs) (field_cells form cs ts))

-- the number of fields is tested before any cell
abbrev pub record_cells : PlainFieldForm → List Column → List (List ℕ) → Result (List Cell) Refusal
record_cells form cs ts = if length ts == length cs then field_cells form cs ts else Err Width

abbrev pub record_row : PlainSchema → PlainFieldForm → List (List ℕ) → Result (List Cell) Refusal
record_row s form ts = and_then (record_cells form s.columns ts) (accepted s)

-- a refusal without a record
abbrev pub whole : Refusal → Refused
whole e = record { refusal = e; number = 0 }

-- the first record is the header, which is not counted
unfoldable pub rows_behind_header : PlainSchema → PlainFieldForm → List (List (List ℕ)) → Result (List (List Cell)) Refused
rows_behind_header s form [] = Err (whole Header)
rows_behind_header s form (h ∷ rs) = if are_names h s.columns then rows_from (record_row s form) 1 rs else Err (whole Header)

abbrev pub rows_of_records : PlainSchema → PlainFieldForm → List (List (List ℕ)) → Result (List (List Cell)) Refused
rows_of_records s form rs = if list_any is_nested_column s.columns then Err (whole Nested) else rows_behind_header s form rs

-- the records of a text, after a byte order mark if it has one
abbrev pub records_of : List ℕ → List (List (List ℕ))
records_of t = records default_config (strip_bom t)

abbrev pub csv_rows_of : PlainSchema → PlainFieldForm → List ℕ → Result (List (List Cell)) Refused
csv_rows_of s form t = rows_of_records s form (records_of t)
