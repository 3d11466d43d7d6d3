-- The text of a field: its name, a colon, its type, and a question mark if it is nullable (docs/definitions/field_texts.md).
use Rattle.std.specs.Prelude.{ℕ, Bool, List, [], ◌∷◌, ◌++◌, codes, Option, None, Some, if◌then◌else◌}
use Rattle.json.specs.Print.{quoted}
use Rattle.arrow_schema.specs.Column.{Index, Kind, Column, Columns, nulls, booleans, integers, dates, timestamps, texts, large_texts, binaries, large_binaries, fixed_binaries, lists, large_lists, fixed_lists, structs, column, no_column, and_column}
use Rattle.field_texts.specs.Keywords.{number_text, integer_text, date_text, time_text, keyword_text}
use Rattle.field_texts.specs.declared.keyword.Keyword.TheVariants as keywords

-- how a name before a type, the name of an item and a timezone are written
pub record Style : Type 0 where
  pub field : List ℕ → List ℕ
  pub item : List ℕ → List ℕ
  pub timezone : List ℕ → List ℕ

-- as typed in: the name of an item is left out
abbrev pub plain : Style
plain = record { field = λ name. name ++ codes ":"; item = λ _. []; timezone = λ timezone. timezone }

-- as printed: each name and each timezone is a JSON string
abbrev pub printed : Style
printed = record { field = λ name. quoted name ++ codes ":"; item = λ name. quoted name ++ codes ":"; timezone = quoted }

-- no timezone, or one in parentheses
abbrev pub timezone_text : Style → List ℕ → List ℕ
timezone_text style [] = []
timezone_text style (x ∷ xs) = codes "(" ++ style.timezone (x ∷ xs) ++ codes ")"

-- the suffix of a nullable field
abbrev pub nullable_suffix : Bool → List ℕ
nullable_suffix nullable = if nullable then codes "?" else []

-- the text before the type of a dictionary's values
abbrev pub dictionary_text : Index → List ℕ
dictionary_text index = keyword_text keywords.Dictionary ++ integer_text index.bits index.signed ++ codes ","

-- a type, or a dictionary of it
abbrev pub with_dictionary : Option Index → List ℕ → List ℕ
with_dictionary None text = text
with_dictionary (Some index) text = dictionary_text index ++ text ++ codes ">"

unfoldable mutual
  pub type_text : Style → Kind → List ℕ
  type_text style nulls = keyword_text keywords.Null
  type_text style booleans = keyword_text keywords.Bool
  type_text style (integers bits signed) = integer_text bits signed
  type_text style (dates unit) = date_text unit
  type_text style (timestamps unit timezone) = time_text unit ++ timezone_text style timezone
  type_text style texts = keyword_text keywords.Utf8
  type_text style large_texts = keyword_text keywords.LargeUtf8
  type_text style binaries = keyword_text keywords.Binary
  type_text style large_binaries = keyword_text keywords.LargeBinary
  type_text style (fixed_binaries width) = keyword_text keywords.FixedBinary ++ number_text width ++ codes ")"
  type_text style (lists item) = keyword_text keywords.List ++ item_text style item ++ codes ">"
  type_text style (large_lists item) = keyword_text keywords.LargeList ++ item_text style item ++ codes ">"
  type_text style (fixed_lists size item) = keyword_text keywords.FixedList ++ number_text size ++ codes "," ++ item_text style item ++ codes ")"
  type_text style (structs parts) = keyword_text keywords.Struct ++ fields_text style parts ++ codes ">"

  -- the item of a list
  pub item_text : Style → Column → List ℕ
  item_text style (column name nullable kind dictionary pairs) = style.item name ++ with_dictionary dictionary (type_text style kind) ++ nullable_suffix nullable

  -- a field
  pub field_text : Style → Column → List ℕ
  field_text style (column name nullable kind dictionary pairs) = style.field name ++ with_dictionary dictionary (type_text style kind) ++ nullable_suffix nullable

  -- the fields of a struct, separated by commas
  pub fields_text : Style → Columns → List ℕ
  fields_text style no_column = []
  fields_text style (and_column c cs) = field_text style c ++ more_text style cs

  pub more_text : Style → Columns → List ℕ
  more_text style no_column = []
  more_text style (and_column c cs) = codes "," ++ field_text style c ++ more_text style cs
