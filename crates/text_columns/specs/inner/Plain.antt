-- Records without quotes, by where they stand in a text.
use Rattle.std.specs.Prelude.{◌≡◌, ◌≤◌, ◌<◌, ◌+◌, ◌-◌, ◌^◌, ◌==◌, ◌||◌, ℕ, Bool, false, true, nat_lt, not, List, [], ◌∷◌, length, drop, take, slice_index, Some}
use Rattle.std.specs.List.{list_all}
use Rattle.std.specs.Char.{is_ascii_digit}
use Rattle.std.specs.Str.{is_utf8}
use Rattle.std.specs.Str.Parse.{digits_value}
use Rattle.cells.specs.Typed.{typed_integer}
use Rattle.csv.specs.Machine.{next_record}
use Rattle.csv.specs.Reading.{default_config}
use Rattle.csv.specs.declared.parser.State.{State}
use Rattle.csv.specs.declared.parser.State.TheVariants as st
use Rattle.text_columns.specs.declared.builder.ColumnBuilder.{ColumnBuilder}
use Rattle.text_columns.specs.declared.ascii_texts.TextField.{TextField}
use Rattle.text_columns.specs.declared.plain.PlainField.{PlainField}
use Rattle.text_columns.specs.declared.plain.PlainRow.{PlainRow}
use Rattle.text_columns.specs.declared.short_integers.ShortInteger.{ShortInteger}
use Rattle.text_columns.specs.inner.Kept.{KeepsField, KeepsRecord}
use Rattle.text_import.specs.FieldForm.{PlainFieldForm}

abbrev pub ends_line : ℕ → Bool
ends_line b = (b == 13) || (b == 10)

abbrev pub ends_field : ℕ → Bool
ends_field b = (b == 44) || ends_line b

-- whether this byte stands first
abbrev pub begins_with : ℕ → List ℕ → Bool
begins_with b [] = false
begins_with b (c ∷ xs) = c == b

abbrev pub begins_quoted : List ℕ → Bool
begins_quoted xs = begins_with 34 xs

-- each byte from a place up to another passes
abbrev pub AllBetween : (ℕ → Bool) → List ℕ → (from end : ℕ) → Type 0
AllBetween p text from end = list_all p (take (end - from) (drop from text)) ≡ true

-- a field from a place up to another, if it does not begin with a quote
pub record IsFieldAt (text : List ℕ) (from end : ℕ) : Type 0 where
  pub low : from ≤ end
  pub high : end ≤ length text
  pub plain : AllBetween (λ b. not (ends_field b)) text from end
  pub stops : end < length text → ends_field (slice_index text end) ≡ true

-- digits from a place up to another, and the number that they spell
pub record AreDigits (text : List ℕ) (from end number : ℕ) : Type 0 where
  pub low : from ≤ end
  pub high : end ≤ length text
  pub digits : AllBetween is_ascii_digit text from end
  pub spelled : number ≡ digits_value 10 (take (end - from) (drop from text))
  pub small : number < 10 ^ (end - from)

-- the integer that a field is
pub record IsShortInteger (text : List ℕ) (from : ℕ) (s : ShortInteger) : Type 0 where
  pub field : IsFieldAt text from s.end
  pub unquoted : begins_quoted (drop from text) ≡ false
  pub spelled : typed_integer (take (s.end - from) (drop from text)) ≡ Some s.number

abbrev pub below_128 : ℕ → Bool
below_128 b = nat_lt b 128

-- the bytes of a field up to a place, which are ASCII if the bits of all are below 128
pub record IsScanned (text : List ℕ) (from at bits : ℕ) : Type 0 where
  pub plain : AllBetween (λ b. not (ends_field b)) text from at
  pub ascii : bits < 128 → AllBetween below_128 text from at

-- a field, whose bytes are ASCII if the bits of all are below 128
pub record IsTextAt (text : List ℕ) (from : ℕ) (t : TextField) : Type 0 where
  pub field : IsFieldAt text from t.end
  pub ascii : t.bits < 128 → is_utf8 (take (t.end - from) (drop from text)) ≡ true

-- a field without quotes, whose cell came after those of a column
pub record PushesField (text : List ℕ) (form : PlainFieldForm) (from : ℕ) (f : PlainField) (old new : ColumnBuilder) : Type 0 where
  pub field : IsFieldAt text from f.end
  pub unquoted : begins_quoted (drop from text) ≡ false
  pub keeps : KeepsField form (take (f.end - from) (drop from text)) f.weight old new

-- line ends from a place up to another
pub record SkipsEnds (text : List ℕ) (from next : ℕ) : Type 0 where
  pub low : from ≤ next
  pub high : next ≤ length text
  pub ends : AllBetween ends_line text from next
  pub stops : next < length text → ends_line (slice_index text next) ≡ false

-- the header from a place on, with its line end, if it has no quotes
pub record SkipsHeader (text : List ℕ) (from next : ℕ) : Type 0 where
  pub last : ℕ
  pub low : from ≤ last
  pub high : last < length text
  pub behind : next ≡ last + 1
  pub plain : AllBetween (λ b. not (ends_line b || (b == 34))) text from last
  pub stops : ends_line (slice_index text last) ≡ true

-- the state after a record, which reads on as the start of a text does
abbrev pub IsFresh : State → Type 0
IsFresh s = (xs : List ℕ) → next_record default_config s [] [] xs ≡ next_record default_config st.StartRecord [] [] xs

-- a record that was read from a place of a text, and whose cells came after the rows
pub record PushesPlain (text : List ℕ) (form : PlainFieldForm) (from : ℕ) (row : PlainRow) (old new : List ColumnBuilder) : Type 0 where
  pub fields : List (List ℕ)
  pub state : State
  pub read : next_record default_config st.StartField [] [] (drop from text) ≡ Some (fields, state, drop row.next text)
  pub fresh : IsFresh state
  pub within : row.next ≤ length text
  pub keeps : KeepsRecord form fields row.weight old new
