-- The place of a field in a schema: the index of a column, and at each further step the index of a field of a struct, or 0 for the item of a list. A
-- place names one field, also where two have the same name or the same path.
use Rattle.std.specs.Prelude.{◌≡◌, ℕ, List, [], ◌∷◌, Option, Some, None, Err, slice_get}
use Rattle.std.specs.Option.{option_and_then}
use Rattle.serde_json.specs.Data.{Data}
use Rattle.arrow_schema.specs.Column.{Kind, Column, lists, large_lists, fixed_lists, structs, list_of}
use Rattle.arrow_schema.specs.Parts.{kind_of_column}
use Rattle.text_import.specs.declared.form.TextForm.{TextForm}
use Rattle.text_import.specs.declared.form.TextForm.TheVariants.{Csv, JsonLines}
use Rattle.text_import.specs.declared.refusal.Refusal.{Refusal}
use Rattle.text_import.specs.declared.value_part.Reason.TheVariants.{Value}
use Rattle.text_import.specs.Flat.{field_cell}
use Rattle.text_import.specs.Objects.{cell_in}
use Rattle.text_import.specs.Part.{PlainPart, field, line, value_part}
use Rattle.civil_days.specs.declared.date_form.DateForm.{DateForm}
use Rattle.text_import.specs.FieldForm.{PlainFieldForm, field_form}

-- the field of the items of a list, or the fields of a struct
abbrev pub parts_of_kind : Kind → List Column
parts_of_kind (lists item) = item ∷ []
parts_of_kind (large_lists item) = item ∷ []
parts_of_kind (fixed_lists size item) = item ∷ []
parts_of_kind (structs fields) = list_of fields
parts_of_kind _ = []

-- the field at a place below another one
unfoldable pub column_below : Column → List ℕ → Option Column
column_below c [] = Some c
column_below c (index ∷ place) = option_and_then (λ part. column_below part place) (slice_get (parts_of_kind (kind_of_column c)) index)

-- the field at a place of a schema
abbrev pub column_at : List Column → List ℕ → Option Column
column_at cs [] = None
column_at cs (index ∷ place) = option_and_then (λ c. column_below c place) (slice_get cs index)

-- the field that a refused part is for: of a CSV record its column, and of a line the field of the value
abbrev pub column_of_part : List Column → PlainPart → Option Column
column_of_part cs (field name place text) = slice_get cs place
column_of_part cs (line (Some (value_part part)) text) = column_at cs part.place
column_of_part cs part = None

-- some value is refused with this refusal for the field at this place
pub record IsRefusedThere (date_form : DateForm) (cs : List Column) (place : List ℕ) (e : Refusal) : Type 0 where
  pub column : Column
  pub stands : column_at cs place ≡ Some column
  pub value : Data
  pub refused : cell_in date_form column value ≡ Err e

-- the same of a text for the column at this place
pub record IsTextRefusedThere (form : PlainFieldForm) (cs : List Column) (place : ℕ) (text : List ℕ) (e : Refusal) : Type 0 where
  pub column : Column
  pub stands : slice_get cs place ≡ Some column
  pub refused : field_cell form column text ≡ Err e

-- the place that a part names is the place where it is refused: of a CSV field its text, and of a line the value, unless a name or a number of items is
-- refused there
abbrev pub IsAtItsPlace : TextForm → List Column → PlainPart → Refusal → Type 0
IsAtItsPlace (Csv form) cs (field name place text) e = IsTextRefusedThere (field_form form) cs place text e
IsAtItsPlace (JsonLines date_form) cs (line (Some (value_part part)) text) e = part.reason ≡ Value → IsRefusedThere date_form cs part.place e
IsAtItsPlace form cs part e = Unit {0}
