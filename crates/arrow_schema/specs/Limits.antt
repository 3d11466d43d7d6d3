-- What a schema must satisfy to be stored: limits of this store, and rules of the format.
use Rattle.std.specs.Prelude.{ℕ, ◌+◌, ◌≤◌, sum_by, length, Bool, true, false, not, ◌&&◌, List, [], ◌∷◌, flat_map, Option, Some, None, is_some, nat_lt, nat_le, Result, Ok, Err, if◌then◌else◌}
use Rattle.std.specs.List.{AllPass, list_all}
use Rattle.std.specs.Str.{is_utf8}
use Rattle.arrow_schema.specs.declared.limits.TheConstants.{MAX_FIELDS, MAX_DEPTH, MAX_PAIRS, MAX_TEXT_BYTES, NUMBER_END}
use Rattle.arrow_schema.specs.declared.limits.SchemaError.{SchemaError}
use Rattle.arrow_schema.specs.declared.limits.SchemaError.TheVariants.{Depth, Fields, Pairs, Bytes, Number, Dictionary}
use Rattle.arrow_schema.specs.Column.{Index, Pair, Kind, Column, integers, timestamps, fixed_binaries, lists, large_lists, fixed_lists, structs, column, columns_of, PlainSchema, is_bit_width}
use Rattle.arrow_schema.specs.Preorder.{every_column, depth_all}

-- the timezone of a timestamp
abbrev pub timezone_of : Kind → List ℕ
timezone_of (timestamps unit timezone) = timezone
timezone_of _ = []

-- the width or the size that a type states, and 0 for other types
abbrev pub number_of : Kind → ℕ
number_of (fixed_binaries width) = width
number_of (fixed_lists size item) = size
number_of _ = 0

-- the type has children
abbrev pub is_nested : Kind → Bool
is_nested (lists item) = true
is_nested (large_lists item) = true
is_nested (fixed_lists size item) = true
is_nested (structs parts) = true
is_nested _ = false

-- the bytes of keys and values
abbrev pub bytes_of_pairs : List Pair → ℕ
bytes_of_pairs pairs = sum_by (λ p. length p.0 + length p.1) pairs

-- for one column without its children: the number of its pairs, and of the bytes of its name, its timezone and its pairs
abbrev pub pairs_in : Column → ℕ
pairs_in (column name nullable kind dictionary pairs) = length pairs

abbrev pub bytes_in : Column → ℕ
bytes_in (column name nullable kind dictionary pairs) = length name + length (timezone_of kind) + bytes_of_pairs pairs

-- the number of key/value pairs: the schema's own and those of all columns
abbrev pub count_of_pairs : PlainSchema → ℕ
count_of_pairs s = length s.pairs + sum_by pairs_in (every_column s)

-- the number of bytes of all names, keys, values and timezones
abbrev pub count_of_bytes : PlainSchema → ℕ
count_of_bytes s = bytes_of_pairs s.pairs + sum_by bytes_in (every_column s)

-- the width or size of its type is in the range of the format
abbrev pub has_number_in_range : Column → Bool
has_number_in_range (column name nullable kind dictionary pairs) = nat_lt (number_of kind) NUMBER_END

-- it has no dictionary, or the values of its dictionary are flat
abbrev pub has_flat_dictionary : Column → Bool
has_flat_dictionary (column name nullable kind dictionary pairs) = not (is_some dictionary && is_nested kind)

-- its integers, and the indices of its dictionary, have 8, 16, 32 or 64 bits
abbrev pub is_kind_of_width : Kind → Bool
is_kind_of_width (integers bits signed) = is_bit_width bits
is_kind_of_width _ = true

abbrev pub is_index_of_width : Option Index → Bool
is_index_of_width None = true
is_index_of_width (Some index) = is_bit_width index.bits

abbrev pub has_bit_widths : Column → Bool
has_bit_widths (column name nullable kind dictionary pairs) = is_kind_of_width kind && is_index_of_width dictionary

-- its name, timezone, keys and values are UTF-8
abbrev pub texts_of_pairs : List Pair → List (List ℕ)
texts_of_pairs pairs = flat_map (λ p. p.0 ∷ p.1 ∷ []) pairs

abbrev pub texts_in : Column → List (List ℕ)
texts_in (column name nullable kind dictionary pairs) = name ∷ timezone_of kind ∷ texts_of_pairs pairs

abbrev pub has_utf8_texts : Column → Bool
has_utf8_texts c = list_all is_utf8 (texts_in c)

-- the limits of a schema
pub record IsWithinLimits (s : PlainSchema) : Type 0 where
  pub levels : depth_all (columns_of s.columns) ≤ MAX_DEPTH
  pub fields : length (every_column s) ≤ MAX_FIELDS
  pub pairs : count_of_pairs s ≤ MAX_PAIRS
  pub bytes : count_of_bytes s ≤ MAX_TEXT_BYTES
  pub numbers : AllPass has_number_in_range (every_column s)
  pub dictionaries : AllPass has_flat_dictionary (every_column s)
  pub widths : AllPass has_bit_widths (every_column s)
  pub texts : AllPass has_utf8_texts (every_column s)
  pub own_texts : AllPass is_utf8 (texts_of_pairs s.pairs)

-- the first limit that it exceeds; in the types of the code, widths are always valid and texts always UTF-8
unfoldable pub first_exceeded : PlainSchema → Result (Unit {0}) SchemaError
first_exceeded s =
    if not (nat_le (depth_all (columns_of s.columns)) MAX_DEPTH) then Err Depth
    else if not (nat_le (length (every_column s)) MAX_FIELDS) then Err Fields
    else if not (nat_le (count_of_pairs s) MAX_PAIRS) then Err Pairs
    else if not (nat_le (count_of_bytes s) MAX_TEXT_BYTES) then Err Bytes
    else if not (list_all has_number_in_range (every_column s)) then Err Number
    else if not (list_all has_flat_dictionary (every_column s)) then Err Dictionary
    else Ok tt
