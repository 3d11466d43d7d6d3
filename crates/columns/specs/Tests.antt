-- Tests that each array of a batch must pass by itself, whether its slots are visible or not (Arrow columnar format, "Physical Memory Layout").
use Rattle.std.specs.Prelude.{ℕ, ◌+◌, ◌-◌, ◌*◌, ◌/◌, ◌^◌, Bool, false, not, ◌&&◌, ◌||◌, ◌==◌, nat_lt, nat_le, List, [], ◌∷◌, ◌++◌, length, Some, None, if◌then◌else◌}
use Rattle.std.specs.List.{list_any, range_with_len}
use Rattle.arrow_schema.specs.Column.{Kind, Column, Columns, nulls, booleans, integers, dates, timestamps, texts, large_texts, binaries, large_binaries, fixed_binaries, lists, large_lists, fixed_lists, structs, column, no_column, and_column}
use Rattle.bitmap.specs.Bits.{bytes_of, count_of}
use Rattle.cells.specs.Fit.{date_bits}
use Rattle.columns.specs.Array.{Array, Arrays, slots_in, validity_in, bits_in, values_in, offsets_in, contents_in, items_in, children_in, indices_in, array_list, first_array, other_arrays}
use Rattle.columns.specs.CellAt.{number_at}

-- an array and its column
pub record Typed : Type 0 where
  pub column : Column
  pub array : Array

abbrev pub typed : Column → Array → Typed
typed c a = record { column = c; array = a }

unfoldable mutual
  -- an array with all its descendants, in preorder; the arrays of a dictionary are in messages of their own
  pub arrays_at : Column → Array → List Typed
  arrays_at (column name nullable kind (Some index) pairs) = λ a. typed (column name nullable kind (Some index) pairs) a ∷ []
  arrays_at (column name nullable kind None pairs) = λ a. typed (column name nullable kind None pairs) a ∷ arrays_below kind a

  pub arrays_below : Kind → Array → List Typed
  arrays_below (lists item) = λ a. arrays_at item (items_in a)
  arrays_below (large_lists item) = λ a. arrays_at item (items_in a)
  arrays_below (fixed_lists size item) = λ a. arrays_at item (items_in a)
  arrays_below (structs columns) = λ a. every_array columns (children_in a)
  arrays_below nulls = λ a. []
  arrays_below booleans = λ a. []
  arrays_below (integers bits signed) = λ a. []
  arrays_below (dates unit) = λ a. []
  arrays_below (timestamps unit timezone) = λ a. []
  arrays_below texts = λ a. []
  arrays_below large_texts = λ a. []
  arrays_below binaries = λ a. []
  arrays_below large_binaries = λ a. []
  arrays_below (fixed_binaries width) = λ a. []

  pub every_array : Columns → Arrays → List Typed
  every_array no_column = λ arrays. []
  every_array (and_column c cs) = λ arrays. arrays_at c (first_array arrays) ++ every_array cs (other_arrays arrays)

-- ---- F19: a buffer has fewer bytes than the slots need

-- a validity bitmap must be empty or have a bit for each slot
abbrev pub has_short_validity : Array → Bool
has_short_validity a = not (length (validity_in a) == 0) && nat_lt (length (validity_in a)) (bytes_of (slots_in a))

-- fewer values of this width than slots
abbrev pub are_few : (width : ℕ) → Array → List ℕ → Bool
are_few width a values = nat_lt (length values) (slots_in a * width)

-- there must be one more offset than slots; an array without slots may have none
abbrev pub are_few_offsets : (width : ℕ) → Array → Bool
are_few_offsets width a = not (slots_in a == 0) && nat_lt (length (offsets_in a)) ((slots_in a + 1) * width)

abbrev pub has_short_buffer : Kind → Array → Bool
has_short_buffer nulls a = false
has_short_buffer booleans a = nat_lt (length (bits_in a)) (bytes_of (slots_in a))
has_short_buffer (integers bits signed) a = are_few (bits / 8) a (values_in a)
has_short_buffer (dates unit) a = are_few (date_bits unit / 8) a (values_in a)
has_short_buffer (timestamps unit timezone) a = are_few 8 a (values_in a)
has_short_buffer texts a = are_few_offsets 4 a
has_short_buffer large_texts a = are_few_offsets 8 a
has_short_buffer binaries a = are_few_offsets 4 a
has_short_buffer large_binaries a = are_few_offsets 8 a
has_short_buffer (fixed_binaries width) a = are_few width a (values_in a)
has_short_buffer (lists item) a = are_few_offsets 4 a
has_short_buffer (large_lists item) a = are_few_offsets 8 a
has_short_buffer (fixed_lists size item) a = false
has_short_buffer (structs columns) a = false

abbrev pub is_short : Column → Array → Bool
is_short (column name nullable kind None pairs) a = has_short_validity a || has_short_buffer kind a
is_short (column name nullable kind (Some index) pairs) a = has_short_validity a || are_few (index.bits / 8) a (indices_in a)

-- ---- F21: the null count of the node differs from the number of slots that are not valid; the null type is exempt

abbrev pub unset_bits : List ℕ → (slots : ℕ) → ℕ
unset_bits validity slots = if length validity == 0 then 0 else slots - count_of validity 0 slots

abbrev pub counts_wrong : (null_count : ℕ) → Column → Array → Bool
counts_wrong null_count (column name nullable nulls None pairs) a = false
counts_wrong null_count (column name nullable kind dictionary pairs) a = not (null_count == unset_bits (validity_in a) (slots_in a))

-- ---- F22: an array with slots has a negative offset, an offset less than the one before it, or a last offset past the end of the contents or items.
-- If any offset is negative, then as signed numbers the first one is, or one is less than the one before it

-- a number of this width is negative in two's complement
abbrev pub is_negative : (width : ℕ) → ℕ → Bool
is_negative width n = nat_le (2 ^ (8 * width - 1)) n

abbrev pub are_unordered : (width : ℕ) → (most : ℕ) → Array → Bool
are_unordered width most a =
    let offset : ℕ → ℕ = number_at width (offsets_in a) in
    not (slots_in a == 0)
    && (list_any (λ i. is_negative width (offset i)) (range_with_len 0 (slots_in a + 1))
    || (list_any (λ i. nat_lt (offset (i + 1)) (offset i)) (range_with_len 0 (slots_in a)) || nat_lt most (offset (slots_in a))))

abbrev pub has_bad_offsets : Kind → Array → Bool
has_bad_offsets nulls a = false
has_bad_offsets booleans a = false
has_bad_offsets (integers bits signed) a = false
has_bad_offsets (dates unit) a = false
has_bad_offsets (timestamps unit timezone) a = false
has_bad_offsets texts a = are_unordered 4 (length (contents_in a)) a
has_bad_offsets large_texts a = are_unordered 8 (length (contents_in a)) a
has_bad_offsets binaries a = are_unordered 4 (length (contents_in a)) a
has_bad_offsets large_binaries a = are_unordered 8 (length (contents_in a)) a
has_bad_offsets (fixed_binaries width) a = false
has_bad_offsets (lists item) a = are_unordered 4 (slots_in (items_in a)) a
has_bad_offsets (large_lists item) a = are_unordered 8 (slots_in (items_in a)) a
has_bad_offsets (fixed_lists size item) a = false
has_bad_offsets (structs columns) a = false

abbrev pub is_unordered : Column → Array → Bool
is_unordered (column name nullable kind None pairs) a = has_bad_offsets kind a
is_unordered (column name nullable kind (Some index) pairs) a = false

-- ---- F20: a struct has a child that is shorter than itself, or a fixed-size list has fewer items than its slots times its size
abbrev pub has_short_part : Kind → Array → Bool
has_short_part (fixed_lists size item) a = nat_lt (slots_in (items_in a)) (slots_in a * size)
has_short_part (structs columns) a = list_any (λ child. nat_lt (slots_in child) (slots_in a)) (array_list (children_in a))
has_short_part _ a = false

abbrev pub has_short_child : Column → Array → Bool
has_short_child (column name nullable kind None pairs) a = has_short_part kind a
has_short_child (column name nullable kind (Some index) pairs) a = false
