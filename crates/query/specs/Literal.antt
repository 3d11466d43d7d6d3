-- The value that a literal states, by the type of the column that it is compared with.
use Rattle.std.specs.Prelude.{ℕ, ◌^◌, ℤ, pos, neg_ℤ, int_lt, int_le, Bool, true, false, ◌&&◌, List, Option, Some, None, option_map, if◌then◌else◌}
use Rattle.std.specs.Option.{option_and_then}
use Rattle.std.specs.Result.{result_ok}
use Rattle.hex.specs.Hex.{decode_of}
use Rattle.arrow_schema.specs.Column.{Kind, nulls, booleans, integers, dates, timestamps, texts, large_texts, binaries, large_binaries, fixed_binaries, lists, large_lists, fixed_lists, structs}
use Rattle.cells.specs.Cell.{Cell, boolean, number, text, bytes}
use Rattle.cells.specs.Typed.{typed_integer, typed_boolean}
use Rattle.civil_days.specs.Typed.{spelled_in}
use Rattle.civil_days.specs.declared.date_column.DateColumn.{DateColumn}
use Rattle.civil_days.specs.declared.date_form.DateForm.{DateForm}
use Rattle.query.specs.Shown.{dated}

unfoldable pub boolean_in : List ℕ → Option Cell
boolean_in t = option_map boolean (typed_boolean t)

-- a literal is a number of 64 bits, signed or unsigned
abbrev pub is_of_64_bits : ℤ → Bool
is_of_64_bits n = int_le (neg_ℤ (pos (2 ^ 63))) n && int_lt n (pos (2 ^ 64))

abbrev pub where_of_64_bits : ℤ → Option Cell
where_of_64_bits n = if is_of_64_bits n then Some (number n) else None

unfoldable pub number_in : List ℕ → Option Cell
number_in t = option_and_then where_of_64_bits (typed_integer t)

-- the number of a date or a timestamp, as its text states it
unfoldable pub date_in : DateColumn → List ℕ → Option Cell
date_in column t = option_and_then where_of_64_bits (result_ok (spelled_in column t))

-- where dates stand in texts as people write them, or as their numbers
abbrev pub number_or_date : Option DateColumn → List ℕ → Option Cell
number_or_date None = number_in
number_or_date (Some column) = date_in column

-- pairs of hexadecimal digits in either case
abbrev pub bytes_in : List ℕ → Option Cell
bytes_in t = option_map bytes (result_ok (decode_of t))

-- the types whose values can be compared
abbrev pub is_comparable : Kind → Bool
is_comparable nulls = false
is_comparable booleans = true
is_comparable (integers bits signed) = true
is_comparable (dates unit) = true
is_comparable (timestamps unit timezone) = true
is_comparable texts = true
is_comparable large_texts = true
is_comparable binaries = true
is_comparable large_binaries = true
is_comparable (fixed_binaries width) = true
is_comparable (lists item) = false
is_comparable (large_lists item) = false
is_comparable (fixed_lists size item) = false
is_comparable (structs parts) = false

-- the value of a literal: dates and timestamps are numbers or stand as people write them, and a text stands for itself. Whether the column may have
-- the value is not asked
abbrev pub literal_of : DateForm → Kind → List ℕ → Option Cell
literal_of form nulls = λ t. None
literal_of form booleans = boolean_in
literal_of form (integers bits signed) = number_in
literal_of form (dates unit) = number_or_date (dated form (dates unit))
literal_of form (timestamps unit timezone) = number_or_date (dated form (timestamps unit timezone))
literal_of form texts = λ t. Some (text t)
literal_of form large_texts = λ t. Some (text t)
literal_of form binaries = bytes_in
literal_of form large_binaries = bytes_in
literal_of form (fixed_binaries width) = bytes_in
literal_of form (lists item) = λ t. None
literal_of form (large_lists item) = λ t. None
literal_of form (fixed_lists size item) = λ t. None
literal_of form (structs parts) = λ t. None
