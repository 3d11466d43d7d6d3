-- The columns that can be typed in, by their names, types and timezones (docs/definitions/field_texts.md).
use Rattle.std.specs.Prelude.{◌≡◌, ℕ, ◌<◌, ◌==◌, Bool, true, false, not, ◌&&◌, ◌||◌, length, List, [], ◌∷◌, codes, Option, None, Some}
use Rattle.std.specs.List.{list_all}
use Rattle.arrow_schema.specs.declared.limits.TheConstants.{NUMBER_END}
use Rattle.arrow_schema.specs.Column.{Index, Kind, Column, Columns, integers, timestamps, fixed_binaries, lists, large_lists, fixed_lists, structs, column, no_column, and_column, is_bit_width}
use Rattle.arrow_schema.specs.Limits.{is_nested}
use Rattle.field_texts.specs.FieldText.{plain, field_text}

abbrev pub is_one_of : List ℕ → ℕ → Bool
is_one_of [] b = false
is_one_of (x ∷ xs) b = b == x || is_one_of xs b

-- the bytes of a name, and those of a timezone
abbrev pub is_name_byte : ℕ → Bool
is_name_byte b = not (is_one_of (codes " :,<>()?\"") b)

abbrev pub is_timezone_byte : ℕ → Bool
is_timezone_byte b = not (is_one_of (codes " ()\"") b)

-- a name has at least one byte
abbrev pub is_name : List ℕ → Bool
is_name name = list_all is_name_byte name && not (length name == 0)

-- any number can be typed in; if limited, those below `NUMBER_END`
abbrev pub IsSize : Bool → ℕ → Type 0
IsSize limited n = limited ≡ true → n < NUMBER_END

-- the values of a dictionary are not lists or structs
abbrev pub IsTypedDictionary : Option Index → Kind → Type 0
IsTypedDictionary None kind = Unit {0}
IsTypedDictionary (Some index) kind = (is_bit_width index.bits ≡ true) × (is_nested kind ≡ false)

unfoldable mutual
  pub IsTypedKind : Bool → Kind → Type 0
  IsTypedKind limited (integers bits signed) = is_bit_width bits ≡ true
  IsTypedKind limited (timestamps unit timezone) = list_all is_timezone_byte timezone ≡ true
  IsTypedKind limited (fixed_binaries width) = IsSize limited width
  IsTypedKind limited (lists item) = IsTypedItem limited item
  IsTypedKind limited (large_lists item) = IsTypedItem limited item
  IsTypedKind limited (fixed_lists size item) = IsSize limited size × IsTypedItem limited item
  IsTypedKind limited (structs parts) = AreTyped limited parts
  IsTypedKind limited _ = Unit {0}

  -- an item has the name `item`
  pub IsTypedItem : Bool → Column → Type 0
  IsTypedItem limited (column name nullable kind dictionary pairs) = (name ≡ codes "item") × (pairs ≡ []) × IsTypedDictionary dictionary kind × IsTypedKind limited kind

  pub IsTypedField : Bool → Column → Type 0
  IsTypedField limited (column name nullable kind dictionary pairs) = (is_name name ≡ true) × (pairs ≡ []) × IsTypedDictionary dictionary kind × IsTypedKind limited kind

  pub AreTyped : Bool → Columns → Type 0
  AreTyped limited no_column = Unit {0}
  AreTyped limited (and_column c cs) = IsTypedField limited c × AreTyped limited cs

-- the text is that of the field; if limited, its numbers are below `NUMBER_END`
abbrev pub IsTextOf : Bool → List ℕ → Column → Type 0
IsTextOf limited text c = IsTypedField limited c × (text ≡ field_text plain c)

abbrev pub IsFieldText : Bool → List ℕ → Type 0
IsFieldText limited text = (c : Column) × IsTextOf limited text c
