-- Why a part of a text is refused.
use Rattle.std.specs.Prelude.{◌≡◌, ◌≢◌, ◌<◌, ◌++◌, ℕ, true, false, List, [], ◌∷◌, length, Option, Some, None, IfSome, Ok, Err, slice_get}
use Rattle.serde_json.specs.Data.{Data, Items, Members}
use Rattle.serde_json.specs.Data as json
use Rattle.serde_json.specs.Find.{get_item, get_member}
use Rattle.arrow_schema.specs.Column.{Kind, Column, Columns, lists, large_lists, fixed_lists, structs, columns_of, list_of, PlainSchema}
use Rattle.arrow_schema.specs.Parts.{name_of_column, is_nullable_column, kind_of_column}
use Rattle.text_import.specs.declared.form.TextForm.{TextForm}
use Rattle.text_import.specs.declared.form.TextForm.TheVariants.{Csv, JsonLines}
use Rattle.text_import.specs.declared.refusal.Refusal.{Refusal}
use Rattle.text_import.specs.declared.refusal.Refusal.TheVariants.{Header, Width, Nested, UnknownName, MissingName, AmbiguousNames}
use Rattle.text_import.specs.declared.value_part.Reason.{Reason}
use Rattle.text_import.specs.declared.value_part.Reason.TheVariants.{Value, Missing, Unknown, Repeated, Count}
use Rattle.text_import.specs.Flat.{field_cell}
use Rattle.text_import.specs.Records.{is_nested_column}
use Rattle.text_import.specs.Objects.{item_count, column_count, cell_in, has_name, names_of, keys_of, line_value, line_row}
use Rattle.text_import.specs.ValuePart.{PlainValuePart, item_step, dot}
use Rattle.text_import.specs.Part.{PlainPart, nested_column, header_name, header_count, record_count, field, line, PlainLinePart, value_part, other_count, unknown_name, repeated_name, header_of}
use Rattle.civil_days.specs.declared.date_form.DateForm.{DateForm}
use Rattle.text_import.specs.FieldForm.{PlainFieldForm, field_form}

-- a column of this name is a list or a struct
pub record IsNestedColumn (cs : List Column) (name : List ℕ) : Type 0 where
  pub place : ℕ
  pub column : Column
  pub stands : slice_get cs place ≡ Some column
  pub named : name_of_column column ≡ name
  pub nested : is_nested_column column ≡ true

-- two of these names are this one
pub record IsRepeated (names : List (List ℕ)) (name : List ℕ) : Type 0 where
  pub first : ℕ
  pub second : ℕ
  pub before : first < second
  pub stands : slice_get names first ≡ Some name
  pub again : slice_get names second ≡ Some name

-- a header and the columns have these names at one place, and they differ
pub record IsOtherName (header : List (List ℕ)) (cs : List Column) (found wanted : List ℕ) : Type 0 where
  pub place : ℕ
  pub column : Column
  pub has : slice_get header place ≡ Some found
  pub stands : slice_get cs place ≡ Some column
  pub named : name_of_column column ≡ wanted
  pub differs : found ≢ wanted

-- there are this many columns, and the counted number differs
pub record IsOtherCount (cs : List Column) (counted columns : ℕ) : Type 0 where
  pub all : columns ≡ length cs
  pub differs : counted ≢ columns

-- the text is refused with this refusal for the column at this place, which has this name
pub record IsRefusedField (form : PlainFieldForm) (cs : List Column) (name : List ℕ) (place : ℕ) (text : List ℕ) (e : Refusal) : Type 0 where
  pub column : Column
  pub stands : slice_get cs place ≡ Some column
  pub named : name_of_column column ≡ name
  pub refused : field_cell form column text ≡ Err e

-- for a record
abbrev pub IsRecordCause : PlainFieldForm → List Column → PlainPart → Refusal → Type 0
IsRecordCause form cs (record_count fields columns) e = (e ≡ Width) × IsOtherCount cs fields columns
IsRecordCause form cs (field name place text) e = IsRefusedField form cs name place text e
IsRecordCause form cs part e = ⊥

-- for a CSV text
abbrev pub IsCsvCause : PlainFieldForm → List Column → List ℕ → PlainPart → Refusal → Type 0
IsCsvCause form cs t (nested_column name) e = (e ≡ Nested) × IsNestedColumn cs name
IsCsvCause form cs t (header_name found wanted) e = (e ≡ Header) × IsOtherName (header_of t) cs found wanted
IsCsvCause form cs t (header_count names columns) e = (e ≡ Header) × (names ≡ length (header_of t)) × IsOtherCount cs names columns
IsCsvCause form cs t part e = IsRecordCause form cs part e

-- the value for a field: the item at its place in an array, or the member with its name in an object
abbrev pub value_at : (place : ℕ) (name : List ℕ) → Data → Option Data
value_at place name (json.array ds) = get_item place ds
value_at place name (json.object ms) = get_member name ms
value_at place name _ = None

-- the column of the items of a list, the columns of a struct, and how many items an array must have, if that is fixed
abbrev pub item_of_kind : Kind → Option Column
item_of_kind (lists below) = Some below
item_of_kind (large_lists below) = Some below
item_of_kind (fixed_lists size below) = Some below
item_of_kind _ = None

abbrev pub fields_of_kind : Kind → List Column
fields_of_kind (structs cs) = list_of cs
fields_of_kind _ = []

abbrev pub size_of_kind : Kind → Option ℕ
size_of_kind (fixed_lists size below) = Some size
size_of_kind (structs cs) = Some (column_count cs)
size_of_kind _ = None

-- a value for a column, or that there is none, is refused with this refusal, because of what is at the end of this path, for the field at this place
pub data IsRefusedAt (date_form : DateForm) (e : Refusal) : Column → Option Data → (path : List ℕ) → (place : List ℕ) → Reason → Type 0 where
  -- the value itself
  is_refused_value : (c : Column) (d : Data) → cell_in date_form c d ≡ Err e → IsRefusedAt date_form e c (Some d) [] [] Value
  -- there is none, where one is wanted
  is_missing : (c : Column) → is_nullable_column c ≡ false → e ≡ MissingName → IsRefusedAt date_form e c None [] [] Missing
  -- an array with another number of items
  is_count : (c : Column) (ds : Items) (size : ℕ) → size_of_kind (kind_of_column c) ≡ Some size → item_count ds ≢ size → e ≡ Width
      → IsRefusedAt date_form e c (Some (json.array ds)) [] [] (Count (item_count ds) size)
  -- a name of an object that is not that of a field
  is_unknown : (c : Column) (cs : Columns) (ms : Members) (name : List ℕ) → kind_of_column c ≡ structs cs → has_name (names_of cs) name ≡ false
      → has_name (keys_of ms) name ≡ true → e ≡ UnknownName → IsRefusedAt date_form e c (Some (json.object ms)) (dot ++ name) [] Unknown
  -- an object for a struct that has two fields of this name
  is_repeated : (c : Column) (cs : Columns) (ms : Members) (name : List ℕ) → kind_of_column c ≡ structs cs → IsRepeated (names_of cs) name
      → e ≡ AmbiguousNames → IsRefusedAt date_form e c (Some (json.object ms)) (dot ++ name) [] Repeated
  -- in an item of a list
  in_item : (c item : Column) (ds : Items) (d : Data) (at : ℕ) (path place : List ℕ) (reason : Reason) → item_of_kind (kind_of_column c) ≡ Some item
      → get_item at ds ≡ Some d → IsRefusedAt date_form e item (Some d) path place reason → IsRefusedAt date_form e c (Some (json.array ds)) (item_step at ++ path) (0 ∷ place) reason
  -- in a field of a struct
  in_field : (c field : Column) (d : Data) (index : ℕ) (path place : List ℕ) (reason : Reason) → slice_get (fields_of_kind (kind_of_column c)) index ≡ Some field
      → IsRefusedAt date_form e field (value_at index (name_of_column field) d) path place reason
      → IsRefusedAt date_form e c (Some d) ((dot ++ name_of_column field) ++ path) (index ∷ place) reason

-- the value of a line for a column, or that there is none, is refused with this refusal, because of what is at the end of this path
pub record IsRefusedBelow (date_form : DateForm) (cs : List Column) (value : Data) (part : PlainValuePart) (e : Refusal) : Type 0 where
  pub index : ℕ
  pub column : Column
  pub path : List ℕ
  pub place : List ℕ
  pub stands : slice_get cs index ≡ Some column
  pub named : part.path ≡ name_of_column column ++ path
  pub placed : part.place ≡ index ∷ place
  pub refused : IsRefusedAt date_form e column (value_at index (name_of_column column) value) path place part.reason

-- for a part of a line, by the value of the line
abbrev pub IsLinePartCause : DateForm → List Column → Data → PlainLinePart → Refusal → Type 0
IsLinePartCause date_form cs value (value_part part) e = IsRefusedBelow date_form cs value part e
IsLinePartCause date_form cs value (other_count items columns) e = (e ≡ Width) × IsOtherCount cs items columns
IsLinePartCause date_form cs value (unknown_name name) e = (e ≡ UnknownName) × (has_name (names_of (columns_of cs)) name ≡ false)
IsLinePartCause date_form cs value (repeated_name name) e = (e ≡ AmbiguousNames) × IsRepeated (names_of (columns_of cs)) name

-- for a line, which is refused with this refusal
abbrev pub IsLineCause : DateForm → PlainSchema → PlainPart → Refusal → Type 0
IsLineCause date_form s (line part text) e =
    (line_row date_form s text ≡ Err e) × IfSome part (λ p. (value : Data) × (line_value text ≡ Ok value) × IsLinePartCause date_form s.columns value p e)
IsLineCause date_form s part e = ⊥

-- a part is refused with this refusal: in CSV a column that is a list or a struct, a name or the number of names of the header, the number of fields
-- of the record, or the text of the field; in JSON Lines the line, and its part if there is one
abbrev pub IsCause : TextForm → PlainSchema → List ℕ → PlainPart → Refusal → Type 0
IsCause (Csv form) s t part e = IsCsvCause (field_form form) s.columns t part e
IsCause (JsonLines date_form) s t part e = IsLineCause date_form s part e
