-- What is not found by the type is not found in any slot.
use Rattle.std.specs.Prelude.{is_some, if◌then◌else◌}
use Rattle.std.specs.List.{list_any, flat_map, range_with_len}
use Rattle.std.proofs.Common.{◌≡◌, ℕ, ◌+◌, ◌<◌, ◌≤◌, ◌*◌, Bool, true, false, List, [], ◌∷◌, length, drop, get_or, Option, Some, None, refl, sym, ap, ◌∙◌}
use Rattle.std.proofs.lemmas.Bool.{or_parts}
use Rattle.std.proofs.lemmas.List.{drop_all}
use Rattle.std.proofs.lemmas.List.Folds.{list_any-append}
use Rattle.facts.specs.laws.Lists.{drop-item, none_in_range}
use Rattle.arrow_schema.specs.declared.types.Field.{Field, out-Field}
use Rattle.arrow_schema.specs.Column.{Kind, Column, Columns, lists, large_lists, fixed_lists, structs, column, no_column, and_column}
use Rattle.arrow_schema.specs.Parts.{kind_of_column}
use Rattle.arrow_schema.specs.laws.Parts.{kind_of_field}
use Rattle.arrow_schema.specs.View.{column_of, kind_of}
use Rattle.columns.specs.Array.{Array, Arrays, items_in, children_in, first_array, other_arrays}
use Rattle.columns.specs.CellAt.{is_valid, cell_at, span_start, span_size}
use Rattle.columns.specs.View.{fields_of}
use Rattle.columns.specs.Visible.{Slot, slot, visible, visible_below, visible_parts}
use Rattle.arrays.specs.declared.visible.slot_test.SlotTest.{SlotTest}
use Rattle.arrays.specs.declared.visible.slot_test.SlotTest.TheVariants.{NoEntry, NotUtf8, Forbidden}
use Rattle.arrays.specs.inner.MayFind.{may_find_own, may_find, may_find_below, any_may_find}
use Rattle.arrays.specs.inner.VisibleSpans.{any_slot, finds, text_width, slots_below, any_below}
use Rattle.arrays.proofs.VisibleSlots.{no_text_at}

no_width : (o : Option ℕ) → is_some o ≡ false → o ≡ None
no_width None h = refl
no_width (Some n) h = absurd cc

own_not_found : (test : SlotTest) (c : Column) (a : Array) (i : ℕ) → may_find_own test c ≡ false → finds test (slot c a i) ≡ false
unfolding cell_at
own_not_found NoEntry (column name nullable kind None pairs) a i h = refl
own_not_found NoEntry (column name nullable kind (Some index) pairs) a i h = absurd cc
own_not_found NotUtf8 (column name nullable kind None pairs) a i h = no_text_at kind a i (no_width (text_width kind) h)
own_not_found NotUtf8 (column name nullable kind (Some index) pairs) a i h = refl
own_not_found Forbidden (column name true kind dictionary pairs) a i h = refl
own_not_found Forbidden (column name false kind dictionary pairs) a i h = absurd cc

-- in the slots of a span themselves
pub own_none : (test : SlotTest) (c : Column) (a : Array) (from n : ℕ) → may_find_own test c ≡ false → any_slot (finds test) c a from n ≡ false
own_none test c a from n h = none_in_range (λ i. finds test (slot c a i)) from n (λ i low high. own_not_found test c a i h)

each_not_found : (f : Slot → Bool) (g : ℕ → List Slot) → ((i : ℕ) → list_any f (g i) ≡ false) → (xs : List ℕ) → list_any f (flat_map g xs) ≡ false
each_not_found f g h [] = refl
each_not_found f g h (x ∷ xs) = list_any-append f (g x) (flat_map g xs) ∙ rw (h x) (each_not_found f g h xs)

if_not_found : (f : Slot → Bool) (b : Bool) (below : List Slot) → list_any f below ≡ false → list_any f (if b then below else []) ≡ false
if_not_found f true below h = h
if_not_found f false below h = refl

mutual
  unfolding may_find may_find_below any_may_find visible visible_below visible_parts

  none_at : (test : SlotTest) (c : Column) (a : Array) (i : ℕ) → may_find test c ≡ false → list_any (finds test) (visible c a i) ≡ false
  none_at test (column name nullable kind (Some index) pairs) a i h = rw (own_not_found test (column name nullable kind (Some index) pairs) a i h) refl
  none_at test (column name nullable kind None pairs) a i h =
      let both = or_parts (may_find_own test (column name nullable kind None pairs)) (may_find_below test kind) h in
      rw (own_not_found test (column name nullable kind None pairs) a i both.0) (if_not_found (finds test) (is_valid a i) (visible_below kind a i) (none_below test kind a i both.1))

  pub none_below : (test : SlotTest) (k : Kind) (a : Array) (i : ℕ) → may_find_below test k ≡ false → list_any (finds test) (visible_below k a i) ≡ false
  none_below test (lists item) a i h = each_not_found (finds test) (visible item (items_in a)) (λ k. none_at test item (items_in a) k h) (range_with_len (span_start 4 a i) (span_size 4 a i))
  none_below test (large_lists item) a i h = each_not_found (finds test) (visible item (items_in a)) (λ k. none_at test item (items_in a) k h) (range_with_len (span_start 8 a i) (span_size 8 a i))
  none_below test (fixed_lists size item) a i h = each_not_found (finds test) (visible item (items_in a)) (λ k. none_at test item (items_in a) k h) (range_with_len (i * size) size)
  none_below test (structs columns) a i h = none_in_parts test columns (children_in a) i h
  none_below test _ a i h = refl

  none_in_parts : (test : SlotTest) (cs : Columns) (arrays : Arrays) (i : ℕ) → any_may_find test cs ≡ false → list_any (finds test) (visible_parts cs arrays i) ≡ false
  none_in_parts test no_column arrays i h = refl
  none_in_parts test (and_column c cs) arrays i h =
      let both = or_parts (may_find test c) (any_may_find test cs) h in
      list_any-append (finds test) (visible c (first_array arrays) i) (visible_parts cs (other_arrays arrays) i)
      ∙ rw (none_at test c (first_array arrays) i both.0) (none_in_parts test cs (other_arrays arrays) i both.1)

none_in_slots : (test : SlotTest) (c : Column) (a : Array) (i : ℕ) → may_find_below test (kind_of_column c) ≡ false → list_any (finds test) (slots_below c a i) ≡ false
none_in_slots test (column name nullable kind None pairs) a i h = if_not_found (finds test) (is_valid a i) (visible_below kind a i) (none_below test kind a i h)
none_in_slots test (column name nullable kind (Some index) pairs) a i h = refl

-- below the slots of a span
pub none_in_span : (test : SlotTest) (field : Field) (a : Array) (from n : ℕ) → may_find_below test (kind_of (out-Field field).data_type) ≡ false → any_below (finds test) (column_of field) a from n ≡ false
none_in_span test field a from n h =
    each_not_found (finds test) (slots_below (column_of field) a) (λ i. none_in_slots test (column_of field) a i (ap (may_find_below test) (kind_of_field field) ∙ h)) (range_with_len from n)

-- ---- field by field

pub next_field : (fs : List Field) (i : ℕ) (f : Field) → i < length fs → f ≡ get_or fs i f → fields_of (drop i fs) ≡ and_column (column_of f) (fields_of (drop (i + 1) fs))
next_field fs i f within is = ap fields_of (drop-item fs i f within is)

pub field_found : (test : SlotTest) (fs : List Field) (i : ℕ) (f : Field) → i < length fs → f ≡ get_or fs i f → may_find test (column_of f) ≡ true → any_may_find test (fields_of (drop i fs)) ≡ true
unfolding any_may_find
field_found test fs i f within is h = ap (any_may_find test) (next_field fs i f within is) ∙ rw h refl

pub field_not_found : (test : SlotTest) (fs : List Field) (i : ℕ) (f : Field) → i < length fs → f ≡ get_or fs i f → may_find test (column_of f) ≡ false
    → any_may_find test (fields_of (drop (i + 1) fs)) ≡ any_may_find test (fields_of (drop i fs))
unfolding any_may_find
field_not_found test fs i f within is h = sym (ap (any_may_find test) (next_field fs i f within is) ∙ rw h refl)

pub no_field_left : (test : SlotTest) (fs : List Field) (i : ℕ) → length fs ≤ i → any_may_find test (fields_of (drop i fs)) ≡ false
unfolding any_may_find
no_field_left test fs i past = ap (λ (gs : List Field). any_may_find test (fields_of gs)) (drop_all i fs past)
