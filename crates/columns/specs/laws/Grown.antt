-- Placed arrays in longer bytes.
use Rattle.std.specs.Prelude.{nat_le}
use Rattle.std.specs.List.{list_all}
use Rattle.std.proofs.Common.{◌≡◌, ℕ, zero, suc, ◌+◌, ◌-◌, ◌≤◌, Bool, true, List, [], ◌∷◌, ◌++◌, map, length, take, drop, refl, sym, ap, subst, arith, ◌∙◌}
use Rattle.std.proofs.Math.Seq.{take-nil}
use Rattle.std.proofs.lemmas.Bool.{and_parts, leb-true}
use Rattle.columns.specs.declared.array.PlacedArray.{PlacedArray}
use Rattle.columns.specs.declared.array.PlacedLayout.{PlacedLayout}
use Rattle.columns.specs.declared.array.PlacedLayout.TheOpen.{PlacedArray-F, PlacedLayout-F}
use Rattle.columns.specs.declared.array.PlacedLayout.TheOpen as placed
use Rattle.columns.specs.declared.array.PlacedLayout.TheFolds.{fold-PlacedLayout, ind-PlacedArray, map-PlacedLayout, map-PlacedArray, fold-roll-PlacedLayout, fold-roll-PlacedArray}
use Rattle.columns.specs.declared.array.Dictionary.{Dictionary}
use Rattle.columns.specs.declared.array.DictionaryPart.{DictionaryPart}
use Rattle.columns.specs.declared.span.Span.{Span}
use Rattle.columns.specs.Array.{Array, Layout, arrays_of, array, bit_layout, fixed_layout, binary_layout, list_layout, fixed_list_layout, struct_layout, dictionary_layout}
use Rattle.columns.specs.Places.{within}
use Rattle.columns.specs.View.{layout_step, array_step, array_in, no_dictionary, arrays_numbered, arrays_in}
use Rattle.columns.specs.Within.{ends_within, layout_within, array_within, is_within_by, stands_within, is_placed_within}

taken_before : (n start : ℕ) (xs ys : List ℕ) → start + n ≤ length xs → take n (drop start (xs ++ ys)) ≡ take n (drop start xs)
taken_before zero start xs ys le = refl
taken_before (suc n) zero [] ys le = absurd (omega arith)
taken_before (suc n) zero (x ∷ xs) ys le = ap (λ (zs : List ℕ). x ∷ zs) (taken_before n zero xs ys (omega arith))
taken_before (suc n) (suc start) [] ys le = absurd (omega arith)
taken_before (suc n) (suc start) (x ∷ xs) ys le = taken_before (suc n) start xs ys (omega arith)

-- a span that ends within some bytes has the same bytes in longer ones
pub within_longer : (bytes more : List ℕ) (span : Span) → ends_within (length bytes) span ≡ true → within (bytes ++ more) span ≡ within bytes span
within_longer bytes more span h = taken_before span.len span.start bytes more (leb-true (span.start + span.len) (length bytes) h)

module _ (bytes more : List ℕ) (stands : DictionaryPart → Bool) (known later : DictionaryPart → List Array) (same : (p : DictionaryPart) → stands p ≡ true → later p ≡ known p) where
  abbrev ArrayStays : PlacedArray → Type 0
  ArrayStays a = is_within_by (length bytes) stands a ≡ true → array_in (bytes ++ more) later a ≡ array_in bytes known a

  abbrev layout_old : PlacedLayout → Layout
  layout_old = fold-PlacedLayout Layout Array (layout_step bytes known) (array_step bytes)

  abbrev layout_new : PlacedLayout → Layout
  layout_new = fold-PlacedLayout Layout Array (layout_step (bytes ++ more) later) (array_step (bytes ++ more))

  abbrev layout_is_within : PlacedLayout → Bool
  layout_is_within = fold-PlacedLayout Bool Bool (layout_within (length bytes) stands) (array_within (length bytes))

  abbrev LayoutStays : PlacedLayout → Type 0
  LayoutStays l = layout_is_within l ≡ true → layout_new l ≡ layout_old l

  abbrev StayingLayout : Type 0
  StayingLayout = (l : PlacedLayout) × LayoutStays l

  abbrev StayingArray : Type 0
  StayingArray = (a : PlacedArray) × ArrayStays a

  stays : (span : Span) → ends_within (length bytes) span ≡ true → within (bytes ++ more) span ≡ within bytes span
  stays span h = within_longer bytes more span h

  all_stay : (xs : List StayingArray) → list_all (λ b. b) (map (is_within_by (length bytes) stands) (map (λ e. e.0) xs)) ≡ true
      → map (array_in (bytes ++ more) later) (map (λ e. e.0) xs) ≡ map (array_in bytes known) (map (λ e. e.0) xs)
  all_stay [] h = refl
  all_stay (x ∷ xs) h =
      let parts = and_parts (is_within_by (length bytes) stands x.0) _ h in
      λ j. x.1 parts.0 j ∷ all_stay xs parts.1 j

  layout_stays : (y : PlacedLayout-F StayingLayout StayingArray)
      → layout_within (length bytes) stands (map-PlacedLayout _ _ _ _ layout_is_within (is_within_by (length bytes) stands) (map-PlacedLayout _ _ _ _ (λ e. e.0) (λ e. e.0) y)) ≡ true
      → layout_step (bytes ++ more) later (map-PlacedLayout _ _ _ _ layout_new (array_in (bytes ++ more) later) (map-PlacedLayout _ _ _ _ (λ e. e.0) (λ e. e.0) y))
      ≡ layout_step bytes known (map-PlacedLayout _ _ _ _ layout_old (array_in bytes known) (map-PlacedLayout _ _ _ _ (λ e. e.0) (λ e. e.0) y))
  layout_stays placed.Null h = refl
  layout_stays (placed.Bits bits) h = ap bit_layout (stays bits h)
  layout_stays (placed.Fixed values) h = ap fixed_layout (stays values h)
  layout_stays (placed.Binary offsets contents) h =
      let parts = and_parts (ends_within (length bytes) offsets) _ h in
      λ j. binary_layout (stays offsets parts.0 j) (stays contents parts.1 j)
  layout_stays (placed.List offsets items) h =
      let parts = and_parts (ends_within (length bytes) offsets) _ h in
      λ j. list_layout (stays offsets parts.0 j) (items.value.1 parts.1 j)
  layout_stays (placed.FixedList items) h = ap fixed_list_layout (items.value.1 h)
  layout_stays (placed.Struct children) h = ap (λ (xs : List Array). struct_layout (arrays_of xs)) (all_stay children.items h)
  layout_stays (placed.Dictionary indices part) h =
      let parts = and_parts (ends_within (length bytes) indices) _ h in
      λ j. dictionary_layout (stays indices parts.0 j) (arrays_of (same part parts.1 j))

  array_stays : (y : PlacedArray-F StayingLayout StayingArray)
      → array_within (length bytes) (map-PlacedArray _ _ _ _ layout_is_within (is_within_by (length bytes) stands) (map-PlacedArray _ _ _ _ (λ e. e.0) (λ e. e.0) y)) ≡ true
      → array_step (bytes ++ more) (map-PlacedArray _ _ _ _ layout_new (array_in (bytes ++ more) later) (map-PlacedArray _ _ _ _ (λ e. e.0) (λ e. e.0) y))
      ≡ array_step bytes (map-PlacedArray _ _ _ _ layout_old (array_in bytes known) (map-PlacedArray _ _ _ _ (λ e. e.0) (λ e. e.0) y))
  array_stays y h =
      let parts = and_parts (ends_within (length bytes) y.validity) _ h in
      λ j. array y.slots (stays y.validity parts.0 j) (y.layout.1 parts.1 j)

  pub longer_bytes : (a : PlacedArray) → ArrayStays a
  longer_bytes = ind-PlacedArray LayoutStays ArrayStays
      (λ x y is h.
      let rolled = sym (fold-roll-PlacedLayout Bool Bool (layout_within (length bytes) stands) (array_within (length bytes)) x) ∙ h in
      fold-roll-PlacedLayout Layout Array (layout_step (bytes ++ more) later) (array_step (bytes ++ more)) x
      ∙ subst (λ z. layout_within (length bytes) stands (map-PlacedLayout _ _ _ _ layout_is_within (is_within_by (length bytes) stands) z) ≡ true
      → layout_step (bytes ++ more) later (map-PlacedLayout _ _ _ _ layout_new (array_in (bytes ++ more) later) z) ≡ layout_step bytes known (map-PlacedLayout _ _ _ _ layout_old (array_in bytes known) z))
      is (layout_stays y) rolled
      ∙ sym (fold-roll-PlacedLayout Layout Array (layout_step bytes known) (array_step bytes) x))
      (λ x y is h.
      let rolled = sym (fold-roll-PlacedArray Bool Bool (layout_within (length bytes) stands) (array_within (length bytes)) x) ∙ h in
      fold-roll-PlacedArray Layout Array (layout_step (bytes ++ more) later) (array_step (bytes ++ more)) x
      ∙ subst (λ z. array_within (length bytes) (map-PlacedArray _ _ _ _ layout_is_within (is_within_by (length bytes) stands) z) ≡ true
      → array_step (bytes ++ more) (map-PlacedArray _ _ _ _ layout_new (array_in (bytes ++ more) later) z) ≡ array_step bytes (map-PlacedArray _ _ _ _ layout_old (array_in bytes known) z))
      is (array_stays y) rolled
      ∙ sym (fold-roll-PlacedArray Layout Array (layout_step bytes known) (array_step bytes) x))

-- ---- with the dictionaries

known_in : (bytes : List ℕ) (dictionaries : List Dictionary) (part : DictionaryPart) → arrays_in bytes dictionaries part ≡ map (array_in bytes no_dictionary) (take part.count (arrays_numbered dictionaries part.number))
known_in bytes [] part = ap (map (array_in bytes no_dictionary)) (sym (ap (take part.count) (none part.number) ∙ take-nil part.count))
  where
    none : (n : ℕ) → arrays_numbered [] n ≡ []
    none zero = refl
    none (suc n) = refl
known_in bytes (d ∷ dictionaries) part = refl

pub flat_stay : (bytes more : List ℕ) (xs : List PlacedArray) → list_all (is_within_by (length bytes) (λ p. true)) xs ≡ true
    → map (array_in (bytes ++ more) no_dictionary) xs ≡ map (array_in bytes no_dictionary) xs
flat_stay bytes more [] h = refl
flat_stay bytes more (x ∷ xs) h =
    let parts = and_parts (is_within_by (length bytes) (λ p. true) x) _ h in
    λ j. longer_bytes bytes more (λ p. true) no_dictionary no_dictionary (λ p e. refl) x parts.0 j ∷ flat_stay bytes more xs parts.1 j

pub array_grown : (bytes more : List ℕ) (old new : List Dictionary) (a : PlacedArray)
    → ((part : DictionaryPart) → part.count ≤ length (arrays_numbered old part.number) → take part.count (arrays_numbered new part.number) ≡ take part.count (arrays_numbered old part.number))
    → is_placed_within (length bytes) old a ≡ true
    → array_in (bytes ++ more) (arrays_in (bytes ++ more) new) a ≡ array_in bytes (arrays_in bytes old) a
array_grown bytes more old new a keeps h = longer_bytes bytes more (stands_within (length bytes) old) (arrays_in bytes old) (arrays_in (bytes ++ more) new)
    (λ part stands.
    let parts = and_parts (nat_le part.count (length (arrays_numbered old part.number))) _ stands in
    known_in (bytes ++ more) new part
    ∙ ap (map (array_in (bytes ++ more) no_dictionary)) (keeps part (leb-true _ _ parts.0))
    ∙ flat_stay bytes more (take part.count (arrays_numbered old part.number)) parts.1
    ∙ sym (known_in bytes old part))
    a h
