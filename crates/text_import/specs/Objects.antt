-- The rows of a text of JSON Lines, over the values that the crate `serde_json` reads from its lines (RFC 8259): numbers are integers of 64 bits or
-- floats, an object has each key once with its last value, and values nest 127 deep.
use Rattle.std.specs.Prelude.{ℕ, ◌+◌, ◌==◌, ◌||◌, Bool, false, not, bytes_eq, List, [], ◌∷◌, Option, Some, None, Result, Ok, Err, if◌then◌else◌}
use Rattle.std.specs.List.{list_any, list_all, filter, slice_split}
use Rattle.std.specs.Str.{is_utf8}
use Rattle.serde_json.specs.Data.{Data, Items, no_items, item, Members, no_members, member}
use Rattle.serde_json.specs.Data as json
use Rattle.serde_json.specs.Find.{as_integer, get_member}
use Rattle.serde_json.specs.Read.{read}
use Rattle.arrow_schema.specs.Column.{Kind, Column, Columns, nulls, booleans, integers, dates, timestamps, texts, large_texts, binaries, large_binaries, fixed_binaries, lists, large_lists, fixed_lists, structs, column, no_column, and_column, columns_of, PlainSchema}
use Rattle.arrow_schema.specs.Parts.{name_of_column, is_nullable_column}
use Rattle.cells.specs.Cell.{Cell, Cells, null, boolean, text, items, parts, no_cell, and_cell, cell_list}
use Rattle.text_import.specs.declared.refusal.Refusal.{Refusal}
use Rattle.text_import.specs.declared.refusal.Refusal.TheVariants.{Width, NotUtf8, NotANumber, NotADate, NotABool, NullMismatch, Json, UnknownName, MissingName, AmbiguousNames, WrongKind}
use Rattle.text_import.specs.declared.refusal.Refused.{Refused}
use Rattle.text_import.specs.Refusals.{and_then, given}
use Rattle.text_import.specs.Flat.{fitting, number_cell, spelled_cell, hex_cell}
use Rattle.text_import.specs.Rows.{accepted, rows_from}
use Rattle.civil_days.specs.declared.date_form.DateForm.{DateForm}
use Rattle.civil_days.specs.declared.date_form.DateForm.TheVariants.{Numbers, Iso}
use Rattle.civil_days.specs.Typed.{spelled}

abbrev pub item_count : Items → ℕ
item_count no_items = 0
item_count (item d ds) = item_count ds + 1

abbrev pub column_count : Columns → ℕ
column_count no_column = 0
column_count (and_column c cs) = column_count cs + 1

-- values of the flat types
abbrev pub boolean_in : Data → Result Cell Refusal
boolean_in (json.boolean b) = Ok (boolean b)
boolean_in _ = Err NotABool

abbrev pub number_in : Kind → Data → Result Cell Refusal
number_in kind (json.number n) = number_cell kind (as_integer n)
number_in kind _ = Err NotANumber

-- a date or a time is a number, or the string that spells it
abbrev pub dated_in : DateForm → Kind → Data → Result Cell Refusal
dated_in Numbers kind d = number_in kind d
dated_in Iso kind (json.string t) = spelled_cell kind (spelled kind t)
dated_in Iso kind _ = Err NotADate

-- a text of a UTF-8 line is UTF-8, too
abbrev pub text_in : Data → Result Cell Refusal
text_in (json.string t) = fitting texts NotUtf8 (text t)
text_in _ = Err WrongKind

abbrev pub bytes_in : Kind → Data → Result Cell Refusal
bytes_in kind (json.string t) = hex_cell kind t
bytes_in kind _ = Err WrongKind

-- the items of an array, each one read by f
abbrev pub each_item : (Data → Result Cell Refusal) → Items → Result Cells Refusal
each_item f no_items = Ok no_cell
each_item f (item d ds) = and_then (f d) (λ x. given (and_cell x) (each_item f ds))

abbrev pub list_in : (Data → Result Cell Refusal) → Data → Result Cell Refusal
list_in f (json.array ds) = given items (each_item f ds)
list_in f _ = Err WrongKind

-- the number of items is tested before any item
abbrev pub sized : {A : Type 0} → ℕ → (Items → Result A Refusal) → Items → Result A Refusal
sized size f ds = if item_count ds == size then f ds else Err Width

abbrev pub fixed_list_in : ℕ → (Data → Result Cell Refusal) → Data → Result Cell Refusal
fixed_list_in size f (json.array ds) = given items (sized size (each_item f) ds)
fixed_list_in size f _ = Err WrongKind

-- a null is a null of any type if nulls are allowed
abbrev pub null_or_in : Bool → (Data → Result Cell Refusal) → Data → Result Cell Refusal
null_or_in nullable f json.null = if nullable then Ok null else Err NullMismatch
null_or_in nullable f d = f d

-- an absent member is a null if nulls are allowed
abbrev pub absent : Bool → Result Cell Refusal
absent nullable = if nullable then Ok null else Err MissingName

abbrev pub member_in : Bool → (Data → Result Cell Refusal) → Option Data → Result Cell Refusal
member_in nullable f None = absent nullable
member_in nullable f (Some d) = f d

-- names
abbrev pub names_of : Columns → List (List ℕ)
names_of no_column = []
names_of (and_column c cs) = name_of_column c ∷ names_of cs

abbrev pub keys_of : Members → List (List ℕ)
keys_of no_members = []
keys_of (member k d ms) = k ∷ keys_of ms

abbrev pub has_name : List (List ℕ) → List ℕ → Bool
has_name names k = list_any (bytes_eq k) names

-- whether two of these names are equal
abbrev pub repeats : List (List ℕ) → Bool
repeats [] = false
repeats (name ∷ names) = has_name names name || repeats names

-- whether a key is not among the names
abbrev pub has_unknown : List (List ℕ) → List (List ℕ) → Bool
has_unknown names keys = list_any (λ k. not (has_name names k)) keys

-- names are tested before any field
abbrev pub named_parts : List (List ℕ) → (Members → Result Cells Refusal) → Members → Result Cells Refusal
named_parts names f ms =
    if repeats names then Err AmbiguousNames
    else if has_unknown names (keys_of ms) then Err UnknownName
    else f ms

-- a struct or a row is an array by position or an object by name
abbrev pub parts_in : ℕ → (Items → Result Cells Refusal) → (Members → Result Cells Refusal) → Data → Result Cells Refusal
parts_in count f g (json.array ds) = sized count f ds
parts_in count f g (json.object ms) = g ms
parts_in count f g _ = Err WrongKind

abbrev pub first_item : Items → Data
first_item no_items = json.null
first_item (item d ds) = d

abbrev pub other_items : Items → Items
other_items no_items = no_items
other_items (item d ds) = ds

unfoldable mutual
  -- the cell of a value in a column
  pub cell_in : DateForm → Column → Data → Result Cell Refusal
  cell_in date_form (column name nullable kind dictionary pairs) = null_or_in nullable (kind_in date_form kind)

  -- the cell of a value that is not null
  pub kind_in : DateForm → Kind → Data → Result Cell Refusal
  kind_in date_form nulls = λ d. Err NullMismatch
  kind_in date_form booleans = boolean_in
  kind_in date_form (integers bits signed) = number_in (integers bits signed)
  kind_in date_form (dates unit) = dated_in date_form (dates unit)
  kind_in date_form (timestamps unit timezone) = dated_in date_form (timestamps unit timezone)
  kind_in date_form texts = text_in
  kind_in date_form large_texts = text_in
  kind_in date_form binaries = bytes_in binaries
  kind_in date_form large_binaries = bytes_in large_binaries
  kind_in date_form (fixed_binaries width) = bytes_in (fixed_binaries width)
  kind_in date_form (lists below) = list_in (cell_in date_form below)
  kind_in date_form (large_lists below) = list_in (cell_in date_form below)
  kind_in date_form (fixed_lists size below) = fixed_list_in size (cell_in date_form below)
  kind_in date_form (structs columns) = λ d. given parts (parts_in (column_count columns) (cells_by_place date_form columns) (named_parts (names_of columns) (cells_by_name date_form columns)) d)

  -- the cells of as many items as columns, in order
  pub cells_by_place : DateForm → Columns → Items → Result Cells Refusal
  cells_by_place date_form no_column = λ ds. Ok no_cell
  cells_by_place date_form (and_column c cs) = λ ds. and_then (cell_in date_form c (first_item ds)) (λ x. given (and_cell x) (cells_by_place date_form cs (other_items ds)))

  -- the cells of the members with the names of the columns, in the order of the columns
  pub cells_by_name : DateForm → Columns → Members → Result Cells Refusal
  cells_by_name date_form no_column = λ ms. Ok no_cell
  cells_by_name date_form (and_column c cs) = λ ms. and_then (member_in (is_nullable_column c) (cell_in date_form c) (get_member (name_of_column c) ms)) (λ x. given (and_cell x) (cells_by_name date_form cs ms))

-- the cells of columns, for a row or a struct
abbrev pub cells_in : DateForm → Columns → Data → Result Cells Refusal
cells_in date_form columns = parts_in (column_count columns) (cells_by_place date_form columns) (named_parts (names_of columns) (cells_by_name date_form columns))

abbrev pub value_row : DateForm → PlainSchema → Data → Result (List Cell) Refusal
value_row date_form s d = and_then (given cell_list (cells_in date_form (columns_of s.columns) d)) (accepted s)

-- the value of a line
abbrev pub value_of : Option Data → Result Data Refusal
value_of None = Err Json
value_of (Some d) = Ok d

abbrev pub line_value : List ℕ → Result Data Refusal
line_value line = if is_utf8 line then value_of (read line) else Err NotUtf8

abbrev pub line_row : DateForm → PlainSchema → List ℕ → Result (List Cell) Refusal
line_row date_form s line = and_then (line_value line) (value_row date_form s)

-- a line of only spaces, tabs and carriage returns is skipped and not counted
abbrev pub is_blank : List ℕ → Bool
is_blank line = list_all (λ b. b == 32 || b == 9 || b == 13) line

-- the lines of a text, separated by line feeds, without the blank ones
abbrev pub lines_of : List ℕ → List (List ℕ)
lines_of t = filter (λ line. not (is_blank line)) (slice_split (λ b. b == 10) t)

abbrev pub jsonl_rows_of : DateForm → PlainSchema → List ℕ → Result (List (List Cell)) Refused
jsonl_rows_of date_form s t = rows_from (line_row date_form s) 1 (lines_of t)
