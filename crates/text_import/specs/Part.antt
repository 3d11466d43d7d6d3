-- The part of a text that is refused: the first one in a header or a record that is refused by itself, or a line with its refused part.
use Rattle.std.specs.Prelude.{ℕ, ◌+◌, ◌-◌, ◌==◌, bytes_eq, List, [], ◌∷◌, length, Option, Some, None, option_map, unwrap_or, Result, Ok, Err, string_bytes, slice_get, if◌then◌else◌}
use Rattle.std.specs.Option.{option_and_then, option_or}
use Rattle.serde_json.specs.Data.{Data, Items, Members}
use Rattle.serde_json.specs.Data as json
use Rattle.arrow_schema.specs.Column.{Column, Columns, columns_of, PlainSchema}
use Rattle.arrow_schema.specs.Parts.{name_of_column}
use Rattle.text_import.specs.declared.form.TextForm.{TextForm}
use Rattle.text_import.specs.declared.form.TextForm.TheVariants.{Csv, JsonLines}
use Rattle.text_import.specs.declared.part.LinePart.{LinePart}
use Rattle.text_import.specs.declared.part.LinePart.TheVariants as line_parts
use Rattle.text_import.specs.declared.part.RefusedPart.{RefusedPart}
use Rattle.text_import.specs.declared.part.RefusedPart.TheVariants as parts
use Rattle.text_import.specs.declared.refusal.Refusal.{Refusal}
use Rattle.text_import.specs.Flat.{field_cell}
use Rattle.text_import.specs.Records.{is_nested_column, records_of}
use Rattle.text_import.specs.Objects.{item_count, column_count, names_of, keys_of, line_value, lines_of}
use Rattle.text_import.specs.ValuePart.{PlainValuePart, value_part_of, is_refused, first_unknown, first_repeated, part_by_place, part_by_name}
use Rattle.civil_days.specs.declared.date_form.DateForm.{DateForm}
use Rattle.text_import.specs.FieldForm.{PlainFieldForm, field_form}

-- the refused part of a line of JSON Lines: a part of its value in a column, with the path from the line; an array whose number of items differs from
-- the number of columns; a name that is not that of a column; or one that two columns have
pub data PlainLinePart : Type 0 where
  value_part : PlainValuePart → PlainLinePart
  other_count : (items columns : ℕ) → PlainLinePart
  unknown_name : (name : List ℕ) → PlainLinePart
  repeated_name : (name : List ℕ) → PlainLinePart

-- for CSV, a column that is a list or a struct; in its header, a name and the one that is wanted at its place, or the number of names; in a record, the
-- number of fields, or a field with its place and its text; or a line with its refused part
pub data PlainPart : Type 0 where
  nested_column : (name : List ℕ) → PlainPart
  header_name : (found wanted : List ℕ) → PlainPart
  header_count : (names columns : ℕ) → PlainPart
  record_count : (fields columns : ℕ) → PlainPart
  field : (name : List ℕ) → (place : ℕ) → (text : List ℕ) → PlainPart
  line : (part : Option PlainLinePart) (text : List ℕ) → PlainPart

abbrev pub line_part_of : LinePart → PlainLinePart
line_part_of (line_parts.Value part) = value_part (value_part_of part)
line_part_of (line_parts.Count items columns) = other_count items columns
line_part_of (line_parts.Name name) = unknown_name (string_bytes name)
line_part_of (line_parts.RepeatedName name) = repeated_name (string_bytes name)

abbrev pub part_of : RefusedPart → PlainPart
part_of (parts.NestedColumn name) = nested_column (string_bytes name)
part_of (parts.HeaderName found wanted) = header_name found.items (string_bytes wanted)
part_of (parts.HeaderCount names columns) = header_count names columns
part_of (parts.RecordCount fields columns) = record_count fields columns
part_of (parts.Field name place text) = field (string_bytes name) place text.items
part_of (parts.Line part text) = line (option_map line_part_of part) text.items

-- the first column that is a list or a struct
unfoldable pub nested_part : List Column → Option PlainPart
nested_part [] = None
nested_part (c ∷ cs) = if is_nested_column c then Some (nested_column (name_of_column c)) else nested_part cs

-- the first name of a header that differs from that of the column at its place
unfoldable pub other_name : List (List ℕ) → List Column → Option PlainPart
other_name [] cs = None
other_name (t ∷ ts) [] = None
other_name (t ∷ ts) (c ∷ cs) = if bytes_eq t (name_of_column c) then other_name ts cs else Some (header_name t (name_of_column c))

-- if the names that both have are equal, the numbers of names and columns
abbrev pub refused_names : List Column → List (List ℕ) → Option PlainPart
refused_names cs ts = option_or (other_name ts cs) (if length ts == length cs then None else Some (header_count (length ts) (length cs)))

-- the header of a text is its first record; a text without records has no names
abbrev pub header_of : List ℕ → List (List ℕ)
header_of t = unwrap_or (slice_get (records_of t) 0) []

-- lists and structs are refused before the header is tested
abbrev pub refused_header : List Column → List ℕ → Option PlainPart
refused_header cs t = option_or (nested_part cs) (refused_names cs (header_of t))

-- the first field whose text is refused for its column; the first column has this place
unfoldable pub refused_field : PlainFieldForm → (place : ℕ) → List Column → List (List ℕ) → Option PlainPart
refused_field form place [] ts = None
refused_field form place (c ∷ cs) [] = None
refused_field form place (c ∷ cs) (t ∷ ts) =
    if is_refused (field_cell form c t) then Some (field (name_of_column c) place t) else refused_field form (place + 1) cs ts

-- the number of fields is tested before any field
abbrev pub refused_in_record : PlainFieldForm → List Column → List (List ℕ) → Option PlainPart
refused_in_record form cs ts = if length ts == length cs then refused_field form 0 cs ts else Some (record_count (length ts) (length cs))

-- the number of items is tested before any item; a path begins with the name of a column
abbrev pub refused_in_items : DateForm → Columns → Items → Option PlainLinePart
refused_in_items date_form cs ds =
    if item_count ds == column_count cs then option_map value_part (part_by_place date_form [] 0 cs ds) else Some (other_count (item_count ds) (column_count cs))

-- names are tested before any member, first those of the columns
abbrev pub refused_in_members : DateForm → Columns → Members → Option PlainLinePart
refused_in_members date_form cs ms =
    option_or (option_map repeated_name (first_repeated (names_of cs)))
    (option_or (option_map unknown_name (first_unknown (names_of cs) (keys_of ms))) (option_map value_part (part_by_name date_form [] 0 cs ms)))

abbrev pub refused_in_value : DateForm → Columns → Data → Option PlainLinePart
refused_in_value date_form cs (json.array ds) = refused_in_items date_form cs ds
refused_in_value date_form cs (json.object ms) = refused_in_members date_form cs ms
refused_in_value date_form cs _ = None

-- the refused part of a value that was read from a line
abbrev pub refused_in_read : DateForm → Columns → Result Data Refusal → Option PlainLinePart
refused_in_read date_form cs (Ok d) = refused_in_value date_form cs d
refused_in_read date_form cs (Err e) = None

abbrev pub refused_in_line : DateForm → PlainSchema → List ℕ → PlainPart
refused_in_line date_form s t = line (refused_in_read date_form (columns_of s.columns) (line_value t)) t

-- a refusal without a record is that of the header in CSV
abbrev pub whole_part : TextForm → PlainSchema → List ℕ → Option PlainPart
whole_part (Csv form) s t = refused_header s.columns t
whole_part (JsonLines date_form) s t = None

-- the refused part of the record with this number: CSV records are counted with the header at 0, and lines from 1
abbrev pub numbered_part : TextForm → PlainSchema → List ℕ → ℕ → Option PlainPart
numbered_part (Csv form) s t number = option_and_then (refused_in_record (field_form form) s.columns) (slice_get (records_of t) number)
numbered_part (JsonLines date_form) s t number = option_map (refused_in_line date_form s) (slice_get (lines_of t) (number - 1))

abbrev pub refused_part : TextForm → PlainSchema → List ℕ → ℕ → Option PlainPart
refused_part form s t number = if number == 0 then whole_part form s t else numbered_part form s t number
