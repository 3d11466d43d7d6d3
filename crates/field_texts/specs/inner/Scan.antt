-- The parts at the start of a field text.
use Rattle.std.specs.Prelude.{ℕ, ◌-◌, ◌^◌, ◌==◌, min, Bool, true, false, not, ◌&&◌, ◌||◌, nat_le, nat_lt, List, [], ◌∷◌, map, length, get_or, codes, Option, None, Some, is_some, option_map, if◌then◌else◌}
use Rattle.std.specs.List.{list_all}
use Rattle.std.specs.Option.{option_and_then, option_or, unwrap_or}
use Rattle.std.specs.Int.Digits.{number_from_digits}
use Rattle.arrow_schema.specs.declared.limits.TheConstants.{NUMBER_END}
use Rattle.arrow_schema.specs.declared.types.BitWidth.TheVariants.{Eight, Sixteen, ThirtyTwo, SixtyFour}
use Rattle.arrow_schema.specs.declared.types.DateUnit.TheVariants as days
use Rattle.arrow_schema.specs.declared.types.TimeUnit.TheVariants as times
use Rattle.field_texts.specs.declared.keyword.Keyword.{Keyword}
use Rattle.field_texts.specs.declared.keyword.Keyword.TheVariants as keywords
use Rattle.arrow_schema.specs.Column.{Index, Kind, nulls, booleans, integers, dates, timestamps, texts, large_texts, binaries, large_binaries, fixed_binaries}
use Rattle.arrow_schema.specs.View.{bits_of, date_kind, time_kind}
use Rattle.field_texts.specs.Keywords.{keyword_text}
use Rattle.field_texts.specs.Typed.{is_timezone_byte, is_name}

-- the text after a prefix
unfoldable pub stripped : List ℕ → List ℕ → Option (List ℕ)
stripped [] text = Some text
stripped (x ∷ xs) [] = None
stripped (x ∷ xs) (y ∷ ys) = if x == y then stripped xs ys else None

-- the text before the first delimiter, and the text after it
unfoldable pub cut_at : ℕ → List ℕ → Option (List ℕ × List ℕ)
cut_at delimiter [] = None
cut_at delimiter (x ∷ xs) = if x == delimiter then Some ([], xs) else option_map (λ p. (x ∷ p.0, p.1)) (cut_at delimiter xs)

-- the keywords at the start of a type; none is a prefix of another
unfoldable pub every_keyword : List Keyword
every_keyword =
    keywords.Null ∷ keywords.Bool
    ∷ keywords.Int (record { width = Eight; signed = true }) ∷ keywords.Int (record { width = Sixteen; signed = true })
    ∷ keywords.Int (record { width = ThirtyTwo; signed = true }) ∷ keywords.Int (record { width = SixtyFour; signed = true })
    ∷ keywords.Int (record { width = Eight; signed = false }) ∷ keywords.Int (record { width = Sixteen; signed = false })
    ∷ keywords.Int (record { width = ThirtyTwo; signed = false }) ∷ keywords.Int (record { width = SixtyFour; signed = false })
    ∷ keywords.Date days.Day ∷ keywords.Date days.Millisecond
    ∷ keywords.Timestamp times.Second ∷ keywords.Timestamp times.Millisecond ∷ keywords.Timestamp times.Microsecond ∷ keywords.Timestamp times.Nanosecond
    ∷ keywords.Utf8 ∷ keywords.LargeUtf8 ∷ keywords.Binary ∷ keywords.LargeBinary ∷ keywords.FixedBinary
    ∷ keywords.List ∷ keywords.LargeList ∷ keywords.FixedList ∷ keywords.Struct ∷ keywords.Dictionary ∷ []

unfoldable pub keyword_in : List Keyword → List ℕ → Option (Keyword × List ℕ)
keyword_in [] text = None
keyword_in (keyword ∷ others) text = option_or (option_map (λ rest. (keyword, rest)) (stripped (keyword_text keyword) text)) (keyword_in others text)

unfoldable pub keyword_at : List ℕ → Option (Keyword × List ℕ)
keyword_at text = keyword_in every_keyword text

-- decimal digits without leading zeros, and their value
abbrev pub is_digit : ℕ → Bool
is_digit b = nat_le 48 b && nat_le b 57

abbrev pub has_one_form : List ℕ → Bool
has_one_form ds = not (length ds == 0) && ((length ds == 1) || not (get_or ds 0 0 == 48))

unfoldable pub is_numeral : List ℕ → Bool
is_numeral ds = list_all is_digit ds && has_one_form ds

unfoldable pub value : List ℕ → ℕ
value ds = number_from_digits 10 (map (λ d. d - 48) ds)

-- a number of 32 bits, capped at the greatest one
abbrev pub capped_number : ℕ → ℕ
capped_number n = min n (2 ^ 32 - 1)

-- the digits of a number, which is below `NUMBER_END` if limited
abbrev pub is_size : Bool → List ℕ → Bool
is_size limited ds = is_numeral ds && (not limited || nat_lt (value ds) NUMBER_END)

unfoldable pub size_at : Bool → ℕ → List ℕ → Option (ℕ × List ℕ)
size_at limited delimiter text = option_and_then (λ p. if is_size limited p.0 then Some (capped_number (value p.0), p.1) else None) (cut_at delimiter text)

-- a timezone in parentheses, if there is a parenthesis
abbrev pub is_timezone : List ℕ → Bool
is_timezone timezone = list_all is_timezone_byte timezone && not (length timezone == 0)

unfoldable pub timezone_within : List ℕ → Option (List ℕ × List ℕ)
timezone_within text = option_and_then (λ p. if is_timezone p.0 then Some p else None) (cut_at 41 text)

abbrev pub timezone_or : List ℕ → Option (List ℕ) → Option (List ℕ × List ℕ)
timezone_or text None = Some ([], text)
timezone_or text (Some inside) = timezone_within inside

unfoldable pub timezone_at : List ℕ → Option (List ℕ × List ℕ)
timezone_at text = timezone_or text (stripped (codes "(") text)

-- the rest of a flat type, after its keyword
unfoldable pub flat_at : Bool → Keyword → List ℕ → Option (Kind × List ℕ)
flat_at limited keywords.Null text = Some (nulls, text)
flat_at limited keywords.Bool text = Some (booleans, text)
flat_at limited (keywords.Int integer) text = Some (integers (bits_of integer.width) integer.signed, text)
flat_at limited (keywords.Date unit) text = Some (dates (date_kind unit), text)
flat_at limited (keywords.Timestamp unit) text = option_map (λ p. (timestamps (time_kind unit) p.0, p.1)) (timezone_at text)
flat_at limited keywords.Utf8 text = Some (texts, text)
flat_at limited keywords.LargeUtf8 text = Some (large_texts, text)
flat_at limited keywords.Binary text = Some (binaries, text)
flat_at limited keywords.LargeBinary text = Some (large_binaries, text)
flat_at limited keywords.FixedBinary text = option_map (λ p. (fixed_binaries p.0, p.1)) (size_at limited 41 text)
flat_at limited keywords.List text = None
flat_at limited keywords.LargeList text = None
flat_at limited keywords.FixedList text = None
flat_at limited keywords.Struct text = None
flat_at limited keywords.Dictionary text = None

-- how a type begins: a whole flat type, or the text before the parts of a nested one
pub data Opening : Type 0 where
  flat : Kind → Option Index → Opening
  list : Opening
  large_list : Opening
  fixed_list : ℕ → Opening
  struct : Opening

abbrev pub index_in : Keyword → Option Index
index_in (keywords.Int integer) = Some (record { bits = bits_of integer.width; signed = integer.signed })
index_in _ = None

-- the values of a dictionary, and the bracket that closes it
unfoldable pub values_at : Bool → Index → List ℕ → Option (Opening × List ℕ)
values_at limited index text = option_and_then (λ q. option_and_then (λ v. option_map (λ rest. (flat v.0 (Some index), rest)) (stripped (codes ">") v.1)) (flat_at limited q.0 q.1)) (keyword_at text)

-- the rest of a dictionary, after its keyword
unfoldable pub dictionary_at : Bool → List ℕ → Option (Opening × List ℕ)
dictionary_at limited text = option_and_then (λ p. option_and_then (λ index. option_and_then (values_at limited index) (stripped (codes ",") p.1)) (index_in p.0)) (keyword_at text)

unfoldable pub opening_after : Bool → Keyword → List ℕ → Option (Opening × List ℕ)
opening_after limited keywords.List text = Some (list, text)
opening_after limited keywords.LargeList text = Some (large_list, text)
opening_after limited keywords.FixedList text = option_map (λ p. (fixed_list p.0, p.1)) (size_at limited 44 text)
opening_after limited keywords.Struct text = Some (struct, text)
opening_after limited keywords.Dictionary text = dictionary_at limited text
opening_after limited keyword text = option_map (λ p. (flat p.0 None, p.1)) (flat_at limited keyword text)

unfoldable pub opening_at : Bool → List ℕ → Option (Opening × List ℕ)
opening_at limited text = option_and_then (λ p. opening_after limited p.0 p.1) (keyword_at text)

-- a name and its colon
unfoldable pub name_at : List ℕ → Option (List ℕ × List ℕ)
name_at text = option_and_then (λ p. if is_name p.0 then Some p else None) (cut_at 58 text)

-- the nullable suffix, and the text after it
abbrev pub has_nullable_suffix : List ℕ → Bool
has_nullable_suffix text = is_some (stripped (codes "?") text)

abbrev pub after_nullable_suffix : List ℕ → List ℕ
after_nullable_suffix text = unwrap_or (stripped (codes "?") text) text
