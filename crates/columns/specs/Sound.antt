-- Arrays whose slots can be looked up: at every level no buffer is short, offsets ascend and stay within the contents or items, and children are long
-- enough.
use Rattle.std.specs.Prelude.{ℕ, ◌*◌, ◌/◌, Bool, true, not, ◌&&◌, nat_le, Some, None}
use Rattle.std.specs.List.{list_all}
use Rattle.arrow_schema.specs.Column.{Kind, Column, Columns, nulls, booleans, integers, dates, timestamps, texts, large_texts, binaries, large_binaries, fixed_binaries, lists, large_lists, fixed_lists, structs, column, no_column, and_column}
use Rattle.columns.specs.Array.{Array, Arrays, slots_in, items_in, children_in, indices_in, dictionary_in, array_list, first_array, other_arrays}
use Rattle.columns.specs.Tests.{has_short_validity, has_short_buffer, has_bad_offsets, are_few}

-- the test of an array without a dictionary, given a test of its children
abbrev pub is_sound_by : Kind → (Array → Bool) → Array → Bool
is_sound_by kind children a = not (has_short_validity a) && (not (has_short_buffer kind a) && (not (has_bad_offsets kind a) && children a))

unfoldable mutual
  pub is_sound : Column → Array → Bool
  is_sound (column name nullable kind None pairs) = is_sound_by kind (has_sound_children kind)
  is_sound (column name nullable kind (Some index) pairs) =
      λ a. not (has_short_validity a) && (not (are_few (index.bits / 8) a (indices_in a)) && list_all (is_sound_by kind (has_sound_children kind)) (array_list (dictionary_in a)))

  pub has_sound_children : Kind → Array → Bool
  has_sound_children (lists item) = λ a. is_sound item (items_in a)
  has_sound_children (large_lists item) = λ a. is_sound item (items_in a)
  has_sound_children (fixed_lists size item) = λ a. nat_le (slots_in a * size) (slots_in (items_in a)) && is_sound item (items_in a)
  has_sound_children (structs columns) = λ a. are_sound columns (slots_in a) (children_in a)
  has_sound_children nulls = λ a. true
  has_sound_children booleans = λ a. true
  has_sound_children (integers bits signed) = λ a. true
  has_sound_children (dates unit) = λ a. true
  has_sound_children (timestamps unit timezone) = λ a. true
  has_sound_children texts = λ a. true
  has_sound_children large_texts = λ a. true
  has_sound_children binaries = λ a. true
  has_sound_children large_binaries = λ a. true
  has_sound_children (fixed_binaries width) = λ a. true

  -- one sound array for each column, with at least this many slots
  pub are_sound : Columns → (slots : ℕ) → Arrays → Bool
  are_sound no_column = λ slots arrays. true
  are_sound (and_column c cs) = λ slots arrays. nat_le slots (slots_in (first_array arrays)) && (is_sound c (first_array arrays) && are_sound cs slots (other_arrays arrays))

-- the same for an array without a dictionary
abbrev pub is_kind_sound : Kind → Array → Bool
is_kind_sound kind a = is_sound_by kind (has_sound_children kind) a
