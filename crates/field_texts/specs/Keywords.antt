-- The keywords of field texts (docs/definitions/field_texts.md).
use Rattle.std.specs.Prelude.{ℕ, ◌+◌, Bool, ◌==◌, List, ◌++◌, map, codes, if◌then◌else◌}
use Rattle.std.specs.Int.Digits.{digits_of}
use Rattle.arrow_schema.specs.Column.{DateKind, days, date_milliseconds, TimeKind, seconds, milliseconds, microseconds, nanoseconds}
use Rattle.arrow_schema.specs.View.{bits_of, date_kind, time_kind}
use Rattle.field_texts.specs.declared.keyword.Keyword.{Keyword}
use Rattle.field_texts.specs.declared.keyword.Keyword.TheVariants as keywords

-- a number in decimal digits, without leading zeros
unfoldable pub number_text : ℕ → List ℕ
number_text n = if n == 0 then codes "0" else map (λ d. 48 + d) (digits_of 10 n)

-- `int8` to `int64`, `uint8` to `uint64`
unfoldable pub integer_text : ℕ → Bool → List ℕ
unfolding number_text
integer_text bits signed = (if signed then codes "int" else codes "uint") ++ number_text bits

unfoldable pub date_text : DateKind → List ℕ
date_text days = codes "date_day"
date_text date_milliseconds = codes "date_ms"

unfoldable pub time_text : TimeKind → List ℕ
time_text seconds = codes "timestamp_s"
time_text milliseconds = codes "timestamp_ms"
time_text microseconds = codes "timestamp_us"
time_text nanoseconds = codes "timestamp_ns"

-- the keyword at the start of a type, with the bracket after it
unfoldable pub keyword_text : Keyword → List ℕ
keyword_text keywords.Null = codes "null"
keyword_text keywords.Bool = codes "bool"
keyword_text (keywords.Int integer) = integer_text (bits_of integer.width) integer.signed
keyword_text (keywords.Date unit) = date_text (date_kind unit)
keyword_text (keywords.Timestamp unit) = time_text (time_kind unit)
keyword_text keywords.Utf8 = codes "utf8"
keyword_text keywords.LargeUtf8 = codes "large_utf8"
keyword_text keywords.Binary = codes "binary"
keyword_text keywords.LargeBinary = codes "large_binary"
keyword_text keywords.FixedBinary = codes "fixed_binary("
keyword_text keywords.List = codes "list<"
keyword_text keywords.LargeList = codes "large_list<"
keyword_text keywords.FixedList = codes "fixed_list("
keyword_text keywords.Struct = codes "struct<"
keyword_text keywords.Dictionary = codes "dict<"
