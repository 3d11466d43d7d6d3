-- What is visible by spans of slots.
use Rattle.std.specs.Prelude.{◌||◌, if◌then◌else◌}
use Rattle.std.specs.List.{list_any, flat_map, range_with_len}
use Rattle.std.proofs.Common.{◌≡◌, ℕ, ◌+◌, ◌-◌, ◌*◌, ◌≤◌, ◌<◌, Bool, true, false, List, [], ◌∷◌, drop, Some, None, refl, arith, sym, ap, ◌∙◌}
use Rattle.std.proofs.lemmas.List.Folds.{list_any-append}
use Rattle.arrow_schema.specs.Parts.{kind_of_column}
use Rattle.arrow_schema.specs.laws.Parts.{kind_of_field}
use Rattle.arrays.proofs.Ranges.{any-split, any-both, any-first_and_others, flat_map-alike, flat_map-none, flat_map-spans}
use Rattle.arrow_schema.specs.declared.types.Field.{Field, out-Field}
use Rattle.arrow_schema.specs.Column.{Kind, Column, Columns, lists, large_lists, fixed_lists, structs, column, no_column, and_column}
use Rattle.arrow_schema.specs.Limits.{is_nested}
use Rattle.arrow_schema.specs.View.{column_of, kind_of}
use Rattle.columns.specs.declared.array.PlacedArray.{PlacedArray}
use Rattle.columns.specs.declared.array.Dictionary.{Dictionary}
use Rattle.columns.specs.Array.{Array, Arrays, slots_in, items_in, offsets_in, children_in, first_array, other_arrays}
use Rattle.columns.specs.CellAt.{is_valid, number_at, span_start}
use Rattle.columns.specs.Sound.{is_sound, is_kind_sound}
use Rattle.columns.specs.Tests.{are_unordered}
use Rattle.columns.specs.laws.Offsets.{offsets_ascend}
use Rattle.columns.specs.View.{placed_arrays}
use Rattle.columns.specs.Visible.{Slot, slot, visible, visible_below, visible_parts, visible_in}
use Rattle.columns.specs.laws.Rows.{other_placed}
use Rattle.arrays.specs.inner.VisibleSpans.{any_slot, any_visible, any_valid_below, slots_below, any_below, any_part, has_below}

-- ---- a slot and what is below it

visible_is : (c : Column) (a : Array) (i : ℕ) → visible c a i ≡ slot c a i ∷ slots_below c a i
unfolding visible
visible_is (column name nullable kind None pairs) a i = refl
visible_is (column name nullable kind (Some index) pairs) a i = refl

pub own_and_below : (f : Slot → Bool) (c : Column) (a : Array) (from n : ℕ) → any_visible f c a from n ≡ (any_slot f c a from n || any_below f c a from n)
own_and_below f c a from n =
    (λ j. list_any f (flat_map (λ i. visible_is c a i j) (range_with_len from n)))
    ∙ any-first_and_others f (slot c a) (slots_below c a) (range_with_len from n)

if_same : (b : Bool) (xs : List Slot) → xs ≡ [] → (if b then xs else []) ≡ []
if_same true xs e = e
if_same false xs e = refl

flat_below : (kind : Kind) (a : Array) (i : ℕ) → is_nested kind ≡ false → visible_below kind a i ≡ []
unfolding visible_below
flat_below (lists item) a i h = absurd cc
flat_below (large_lists item) a i h = absurd cc
flat_below (fixed_lists size item) a i h = absurd cc
flat_below (structs columns) a i h = absurd cc
flat_below _ a i h = refl

slot_has_none : (c : Column) (a : Array) (i : ℕ) → has_below c ≡ false → slots_below c a i ≡ []
slot_has_none (column name nullable kind None pairs) a i h = if_same (is_valid a i) (visible_below kind a i) (flat_below kind a i h)
slot_has_none (column name nullable kind (Some index) pairs) a i h = refl

none_anywhere : (f : Slot → Bool) (c : Column) (a : Array) (from n : ℕ) → ((i : ℕ) → from ≤ i → i < from + n → slots_below c a i ≡ []) → any_below f c a from n ≡ false
none_anywhere f c a from n h =
    ap (list_any f) (flat_map-alike (slots_below c a) (λ i. []) from n h ∙ flat_map-none (range_with_len from n))

pub nothing_below : (f : Slot → Bool) (c : Column) (a : Array) (from n : ℕ) → has_below c ≡ false → any_below f c a from n ≡ false
nothing_below f c a from n h = none_anywhere f c a from n (λ i low high. slot_has_none c a i h)

-- ---- runs of slots that are all valid, or all not

null_slot : (c : Column) (a : Array) (i : ℕ) → is_valid a i ≡ false → slots_below c a i ≡ []
null_slot (column name nullable kind None pairs) a i h = rw h refl
null_slot (column name nullable kind (Some index) pairs) a i h = refl

pub null_run : (f : Slot → Bool) (c : Column) (a : Array) (at end : ℕ) → ((i : ℕ) → at ≤ i → i < end → is_valid a i ≡ is_valid a at) → is_valid a at ≡ false
    → any_below f c a at (end - at) ≡ false
null_run f c a at end alike here = none_anywhere f c a at (end - at) (λ i low high. null_slot c a i (alike i low (omega arith) ∙ here))

valid_below : (f : Slot → Bool) (c : Column) (a : Array) (at end : ℕ) → has_below c ≡ true
    → ((i : ℕ) → at ≤ i → i < end → is_valid a i ≡ is_valid a at) → is_valid a at ≡ true
    → any_below f c a at (end - at) ≡ any_valid_below f (kind_of_column c) a at (end - at)
valid_below f (column name nullable kind None pairs) a at end nested alike here =
    ap (list_any f) (flat_map-alike (slots_below (column name nullable kind None pairs) a) (visible_below kind a) at (end - at)
    (λ i low high. let valid : is_valid a i ≡ true = alike i low (omega arith) ∙ here in rw valid refl))
valid_below f (column name nullable kind (Some index) pairs) a at end nested alike here = absurd cc

pub valid_run : (f : Slot → Bool) (field : Field) (a : Array) (at end : ℕ) → has_below (column_of field) ≡ true
    → ((i : ℕ) → at ≤ i → i < end → is_valid a i ≡ is_valid a at) → is_valid a at ≡ true
    → any_below f (column_of field) a at (end - at) ≡ any_valid_below f (kind_of (out-Field field).data_type) a at (end - at)
valid_run f field a at end nested alike here =
    valid_below f (column_of field) a at end nested alike here ∙ ap (λ (k : Kind). any_valid_below f k a at (end - at)) (kind_of_field field)

pub nested_kind : (field : Field) → has_below (column_of field) ≡ true → is_nested (kind_of (out-Field field).data_type) ≡ true
nested_kind field h = ap is_nested (sym (kind_of_field field)) ∙ below_nested (column_of field) h
  where
    below_nested : (c : Column) → has_below c ≡ true → is_nested (kind_of_column c) ≡ true
    below_nested (column name nullable kind None pairs) h = h
    below_nested (column name nullable kind (Some index) pairs) h = absurd cc

sound_below : (c : Column) (a : Array) → has_below c ≡ true → is_sound c a ≡ true → is_kind_sound (kind_of_column c) a ≡ true
unfolding is_sound
sound_below (column name nullable kind None pairs) a nested h = h
sound_below (column name nullable kind (Some index) pairs) a nested h = absurd cc

pub sound_kind : (field : Field) (a : Array) → has_below (column_of field) ≡ true → is_sound (column_of field) a ≡ true → is_kind_sound (kind_of (out-Field field).data_type) a ≡ true
sound_kind field a nested h = ap (λ (k : Kind). is_kind_sound k a) (sym (kind_of_field field)) ∙ sound_below (column_of field) a nested h

-- a loop over the runs of a span
pub run_joined : (f : Slot → Bool) (c : Column) (a : Array) (at end to : ℕ) → at < end → end ≤ to
    → any_below f c a at (to - at) ≡ (any_below f c a at (end - at) || any_below f c a end (to - end))
run_joined f c a at end to low high = any-split f (slots_below c a) at end to (omega arith) high

pub no_run_left : (f : Slot → Bool) (c : Column) (a : Array) (at to : ℕ) → to ≤ at → any_below f c a at (to - at) ≡ false
no_run_left f c a at to past = let e : to - at ≡ 0 = omega arith in rw e refl

-- ---- below a run of valid slots

lists_below : (f : Slot → Bool) (item : Column) (a : Array) (from n : ℕ) → ((i : ℕ) → from ≤ i → i < from + n → span_start 4 a i ≤ span_start 4 a (i + 1))
    → any_valid_below f (lists item) a from n ≡ any_visible f item (items_in a) (span_start 4 a from) (span_start 4 a (from + n) - span_start 4 a from)
unfolding visible_below
lists_below f item a from n rise = ap (list_any f) (flat_map-spans (visible item (items_in a)) (span_start 4 a) from n rise)

large_lists_below : (f : Slot → Bool) (item : Column) (a : Array) (from n : ℕ) → ((i : ℕ) → from ≤ i → i < from + n → span_start 8 a i ≤ span_start 8 a (i + 1))
    → any_valid_below f (large_lists item) a from n ≡ any_visible f item (items_in a) (span_start 8 a from) (span_start 8 a (from + n) - span_start 8 a from)
unfolding visible_below
large_lists_below f item a from n rise = ap (list_any f) (flat_map-spans (visible item (items_in a)) (span_start 8 a) from n rise)

pub items_below : (f : Slot → Bool) (width : ℕ) (item : Column) (a b : Array) (from n start len : ℕ) (result : Bool) → b ≡ items_in a → start ≡ span_start width a from
    → len ≡ number_at width (offsets_in a) (from + n) - span_start width a from → result ≡ any_visible f item b start len
    → are_unordered width (slots_in (items_in a)) a ≡ false → 0 < n → from + n ≤ slots_in a
    → (width ≡ 4 → result ≡ any_valid_below f (lists item) a from n) × (width ≡ 8 → result ≡ any_valid_below f (large_lists item) a from n)
items_below f width item a b from n start len result is starts ends found ordered some le =
    let most : ℕ = slots_in (items_in a) in
    let rise : (i : ℕ) → from ≤ i → i < from + n → span_start width a i ≤ span_start width a (i + 1) = λ i low high. offsets_ascend width most a i 1 ordered (omega arith) (omega arith) in
    let same : result ≡ any_visible f item (items_in a) (span_start width a from) (span_start width a (from + n) - span_start width a from)
    = found ∙ (λ j. any_visible f item (is j) (starts j) (ends j)) in (
      λ e. let up : (i : ℕ) → from ≤ i → i < from + n → span_start 4 a i ≤ span_start 4 a (i + 1) = rw e at rise in
          same ∙ ap (λ (w : ℕ). any_visible f item (items_in a) (span_start w a from) (span_start w a (from + n) - span_start w a from)) e ∙ sym (lists_below f item a from n up),
      λ e. let up : (i : ℕ) → from ≤ i → i < from + n → span_start 8 a i ≤ span_start 8 a (i + 1) = rw e at rise in
          same ∙ ap (λ (w : ℕ). any_visible f item (items_in a) (span_start w a from) (span_start w a (from + n) - span_start w a from)) e ∙ sym (large_lists_below f item a from n up),
    )

one_size : (size i : ℕ) → (i + 1) * size - i * size ≡ size
one_size size i = omega arith

some_sizes : (size i n : ℕ) → (i + n) * size - i * size ≡ n * size
some_sizes size i n = omega arith

fixed_lists_below : (f : Slot → Bool) (size : ℕ) (item : Column) (a : Array) (from n : ℕ)
    → any_valid_below f (fixed_lists size item) a from n ≡ any_visible f item (items_in a) (from * size) (n * size)
unfolding visible_below
fixed_lists_below f size item a from n =
    (λ j. list_any f (flat_map (λ i. flat_map (visible item (items_in a)) (range_with_len (i * size) (sym (one_size size i) j))) (range_with_len from n)))
    ∙ ap (list_any f) (flat_map-spans (visible item (items_in a)) (λ i. i * size) from n (λ i low high. omega arith))
    ∙ ap (any_visible f item (items_in a) (from * size)) (some_sizes size from n)

pub fixed_items_below : (f : Slot → Bool) (size : ℕ) (item : Column) (a b : Array) (from n : ℕ) (result : Bool) → b ≡ items_in a
    → result ≡ any_visible f item b (from * size) (n * size) → result ≡ any_valid_below f (fixed_lists size item) a from n
fixed_items_below f size item a b from n result is found =
    found ∙ ap (λ (x : Array). any_visible f item x (from * size) (n * size)) is ∙ sym (fixed_lists_below f size item a from n)

parts_alike : (f : Slot → Bool) (cs : Columns) (arrays : Arrays) (from n : ℕ) → list_any f (flat_map (visible_parts cs arrays) (range_with_len from n)) ≡ any_part f cs arrays from n
unfolding visible_parts
parts_alike f no_column arrays from n = ap (list_any f) (flat_map-none (range_with_len from n))
parts_alike f (and_column c cs) arrays from n =
    any-both f (visible c (first_array arrays)) (visible_parts cs (other_arrays arrays)) (range_with_len from n)
    ∙ ap (λ (b : Bool). any_visible f c (first_array arrays) from n || b) (parts_alike f cs (other_arrays arrays) from n)

pub fields_below : (f : Slot → Bool) (cs : Columns) (a : Array) (arrays : Arrays) (from n : ℕ) (result : Bool) → arrays ≡ children_in a
    → result ≡ any_part f cs arrays from n → result ≡ any_valid_below f (structs cs) a from n
unfolding visible_below
fields_below f cs a arrays from n result is found = found ∙ ap (λ (xs : Arrays). any_part f cs xs from n) is ∙ sym (parts_alike f cs (children_in a) from n)

-- ---- columns with their arrays

pub all_visible : (f : Slot → Bool) (cs : Columns) (arrays : Arrays) (rows : ℕ) → any_part f cs arrays 0 rows ≡ list_any f (visible_in cs arrays rows)
unfolding visible_in
all_visible f no_column arrays rows = refl
all_visible f (and_column c cs) arrays rows =
    ap (λ (b : Bool). any_visible f c (first_array arrays) 0 rows || b) (all_visible f cs (other_arrays arrays) rows)
    ∙ sym (list_any-append f (flat_map (visible c (first_array arrays)) (range_with_len 0 rows)) (visible_in cs (other_arrays arrays) rows))

pub others : (bytes : List ℕ) (all : List Dictionary) (xs : List PlacedArray) (i : ℕ) → placed_arrays bytes all (drop (i + 1) xs) ≡ other_arrays (placed_arrays bytes all (drop i xs))
others bytes all xs i = sym (other_placed bytes all xs i)
