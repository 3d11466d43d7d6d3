-- Tests of the visible slots of spans.
use Rattle.std.specs.Prelude.{ℕ, Bool, false, ◌||◌, List, [], Option, Some, None, if◌then◌else◌}
use Rattle.std.specs.List.{list_any, flat_map, range_with_len}
use Rattle.arrow_schema.specs.Column.{Kind, Column, Columns, texts, large_texts, column, no_column, and_column}
use Rattle.arrow_schema.specs.Limits.{is_nested}
use Rattle.arrow_schema.specs.View.{kind_of, index_of}
use Rattle.arrow_schema.specs.declared.types.DataType.{DataType}
use Rattle.arrow_schema.specs.declared.types.DictSpec.{DictSpec}
use Rattle.columns.specs.Array.{Array, Arrays, first_array, other_arrays}
use Rattle.columns.specs.CellAt.{is_valid, cell_at, indexed_cell, unless_null}
use Rattle.columns.specs.View.{view_array}
use Rattle.columns.specs.declared.view.ArrayView.{ArrayView}
use Rattle.columns.specs.Visible.{Slot, slot, visible, visible_below, names_no_entry, is_bad_text, is_forbidden, is_null}
use Rattle.arrays.specs.declared.visible.slot_test.SlotTest.{SlotTest}
use Rattle.arrays.specs.declared.visible.slot_test.SlotTest.TheVariants.{NoEntry, NotUtf8, Forbidden}

-- F15 without dictionaries: their texts are looked at where their batches are read
abbrev pub is_bad_plain_text : Column → Array → ℕ → Bool
is_bad_plain_text (column name nullable kind None pairs) a i = is_bad_text (cell_at (column name nullable kind None pairs) a i)
is_bad_plain_text (column name nullable kind (Some index) pairs) a i = false

abbrev pub is_no_plain_text : Slot → Bool
is_no_plain_text s = is_bad_plain_text s.column s.array s.place

abbrev pub finds : SlotTest → Slot → Bool
finds NoEntry = names_no_entry
finds NotUtf8 = is_no_plain_text
finds Forbidden = is_forbidden

-- a slot of a column with a dictionary: it is not valid, or its entry is a null
abbrev pub has_no_value : DictSpec → DataType → ArrayView → ℕ → Bool
has_no_value spec data_type view i = is_null (unless_null (indexed_cell (index_of spec) (kind_of data_type)) (view_array view) i)

-- ---- spans

-- the slots of a span
abbrev pub any_slot : (Slot → Bool) → Column → Array → (from count : ℕ) → Bool
any_slot f c a from count = list_any (λ i. f (slot c a i)) (range_with_len from count)

-- all that is visible by them
abbrev pub any_visible : (Slot → Bool) → Column → Array → (from count : ℕ) → Bool
any_visible f c a from count = list_any f (flat_map (visible c a) (range_with_len from count))

-- what stands below slots that are valid
abbrev pub any_valid_below : (Slot → Bool) → Kind → Array → (from count : ℕ) → Bool
any_valid_below f kind a from count = list_any f (flat_map (visible_below kind a) (range_with_len from count))

-- what is visible below a slot
abbrev pub slots_below : Column → Array → ℕ → List Slot
slots_below (column name nullable kind (Some index) pairs) a i = []
slots_below (column name nullable kind None pairs) a i = if is_valid a i then visible_below kind a i else []

abbrev pub any_below : (Slot → Bool) → Column → Array → (from count : ℕ) → Bool
any_below f c a from count = list_any f (flat_map (slots_below c a) (range_with_len from count))

-- the same of columns with their arrays
abbrev pub any_part : (Slot → Bool) → Columns → Arrays → (from count : ℕ) → Bool
any_part f no_column arrays from count = false
any_part f (and_column c cs) arrays from count = any_visible f c (first_array arrays) from count || any_part f cs (other_arrays arrays) from count

-- ---- kinds

-- its slots have something below them
abbrev pub has_below : Column → Bool
has_below (column name nullable kind None pairs) = is_nested kind
has_below (column name nullable kind (Some index) pairs) = false

-- how wide the offsets of texts are
abbrev pub text_width : Kind → Option ℕ
text_width texts = Some 4
text_width large_texts = Some 8
text_width _ = None
