-- Tests of the visible slots of several spans.
use Rattle.std.specs.Prelude.{ℕ, ◌+◌, ◌-◌, ◌*◌, Bool, false, ◌&&◌, ◌||◌, nat_lt, nat_le, List}
use Rattle.std.specs.List.{list_any, list_all}
use Rattle.arrow_schema.specs.Column.{Kind, Column, Columns, no_column, and_column}
use Rattle.columns.specs.Array.{Array, Arrays, offsets_in, first_array, other_arrays}
use Rattle.columns.specs.CellAt.{number_at, span_start}
use Rattle.columns.specs.Sound.{are_sound}
use Rattle.columns.specs.Visible.{Slot}
use Rattle.arrays.specs.declared.visible.span_list.SlotSpan.{SlotSpan}
use Rattle.arrays.specs.inner.VisibleSpans.{any_slot, any_visible, any_below, any_valid_below}

-- the slots of the spans, all that is visible by them, and what stands below them
abbrev pub any_slot_of : (Slot → Bool) → Column → Array → List SlotSpan → Bool
any_slot_of f c a spans = list_any (λ s. any_slot f c a s.from s.count) spans

abbrev pub any_visible_of : (Slot → Bool) → Column → Array → List SlotSpan → Bool
any_visible_of f c a spans = list_any (λ s. any_visible f c a s.from s.count) spans

abbrev pub any_below_of : (Slot → Bool) → Column → Array → List SlotSpan → Bool
any_below_of f c a spans = list_any (λ s. any_below f c a s.from s.count) spans

-- what stands below runs of slots that are valid
abbrev pub any_below_runs : (Slot → Bool) → Kind → Array → List SlotSpan → Bool
any_below_runs f kind a runs = list_any (λ s. any_valid_below f kind a s.from s.count) runs

-- the same spans of columns with their arrays
abbrev pub any_part_of : (Slot → Bool) → Columns → Arrays → List SlotSpan → Bool
any_part_of f no_column arrays spans = false
any_part_of f (and_column c cs) arrays spans = any_visible_of f c (first_array arrays) spans || any_part_of f cs (other_arrays arrays) spans

-- ---- where spans end

abbrev pub is_within : (slots : ℕ) → SlotSpan → Bool
is_within slots s = nat_le (s.from + s.count) slots

abbrev pub are_within : (slots : ℕ) → List SlotSpan → Bool
are_within slots spans = list_all (is_within slots) spans

-- spans that are parts of another one
abbrev pub is_inside : (whole : SlotSpan) → SlotSpan → Bool
is_inside whole s = nat_le whole.from s.from && nat_le (s.from + s.count) (whole.from + whole.count)

abbrev pub are_inside : (whole : SlotSpan) → List SlotSpan → Bool
are_inside whole spans = list_all (is_inside whole) spans

-- a run has a slot
abbrev pub is_run : (slots : ℕ) → SlotSpan → Bool
is_run slots s = nat_lt 0 s.count && is_within slots s

abbrev pub are_runs : (slots : ℕ) → List SlotSpan → Bool
are_runs slots runs = list_all (is_run slots) runs

-- columns are long enough for each of some spans
abbrev pub are_long_for : Columns → Arrays → List SlotSpan → Bool
are_long_for cs arrays spans = list_all (λ s. are_sound cs (s.from + s.count) arrays) spans

-- ---- the items of runs of lists

abbrev pub item_span : (width : ℕ) → Array → SlotSpan → SlotSpan
item_span width a s = record { from = span_start width a s.from; count = number_at width (offsets_in a) (s.from + s.count) - span_start width a s.from }

abbrev pub fixed_item_span : (size : ℕ) → SlotSpan → SlotSpan
fixed_item_span size s = record { from = s.from * size; count = s.count * size }
