-- Arrays that are placed within a size are placed within any larger one.
use Rattle.std.specs.List.{list_all}
use Rattle.std.proofs.Common.{◌≡◌, ℕ, ◌+◌, ◌≤◌, Bool, true, List, [], ◌∷◌, map, refl, sym, subst, arith, ◌∙◌}
use Rattle.std.proofs.lemmas.Bool.{and_parts, leb-true, le-leb}
use Rattle.columns.specs.declared.array.PlacedArray.{PlacedArray}
use Rattle.columns.specs.declared.array.PlacedLayout.{PlacedLayout}
use Rattle.columns.specs.declared.array.PlacedLayout.TheOpen.{PlacedArray-F, PlacedLayout-F}
use Rattle.columns.specs.declared.array.PlacedLayout.TheOpen as placed
use Rattle.columns.specs.declared.array.PlacedLayout.TheFolds.{fold-PlacedLayout, ind-PlacedArray, map-PlacedLayout, map-PlacedArray, fold-roll-PlacedLayout, fold-roll-PlacedArray}
use Rattle.columns.specs.declared.array.DictionaryPart.{DictionaryPart}
use Rattle.columns.specs.declared.span.Span.{Span}
use Rattle.columns.specs.Within.{ends_within, layout_within, array_within, is_within_by}

module _ (size more : ℕ) (le : size ≤ more) (stands later : DictionaryPart → Bool) (keeps : (p : DictionaryPart) → stands p ≡ true → later p ≡ true) where
  abbrev ArrayStays : PlacedArray → Type 0
  ArrayStays a = is_within_by size stands a ≡ true → is_within_by more later a ≡ true

  abbrev layout_old : PlacedLayout → Bool
  layout_old = fold-PlacedLayout Bool Bool (layout_within size stands) (array_within size)

  abbrev layout_new : PlacedLayout → Bool
  layout_new = fold-PlacedLayout Bool Bool (layout_within more later) (array_within more)

  abbrev LayoutStays : PlacedLayout → Type 0
  LayoutStays l = layout_old l ≡ true → layout_new l ≡ true

  abbrev StayingLayout : Type 0
  StayingLayout = (l : PlacedLayout) × LayoutStays l

  abbrev StayingArray : Type 0
  StayingArray = (a : PlacedArray) × ArrayStays a

  stays : (span : Span) → ends_within size span ≡ true → ends_within more span ≡ true
  stays span h = let own : span.start + span.len ≤ size = leb-true _ _ h in le-leb (span.start + span.len) more (omega (arith, own, le))

  all_stay : (xs : List StayingArray) → list_all (λ b. b) (map (is_within_by size stands) (map (λ e. e.0) xs)) ≡ true → list_all (λ b. b) (map (is_within_by more later) (map (λ e. e.0) xs)) ≡ true
  all_stay [] h = refl
  all_stay (x ∷ xs) h =
      let parts = and_parts (is_within_by size stands x.0) _ h in
      rw (x.1 parts.0) (all_stay xs parts.1)

  layout_stays : (y : PlacedLayout-F StayingLayout StayingArray)
      → layout_within size stands (map-PlacedLayout _ _ _ _ layout_old (is_within_by size stands) (map-PlacedLayout _ _ _ _ (λ e. e.0) (λ e. e.0) y)) ≡ true
      → layout_within more later (map-PlacedLayout _ _ _ _ layout_new (is_within_by more later) (map-PlacedLayout _ _ _ _ (λ e. e.0) (λ e. e.0) y)) ≡ true
  layout_stays placed.Null h = refl
  layout_stays (placed.Bits bits) h = stays bits h
  layout_stays (placed.Fixed values) h = stays values h
  layout_stays (placed.Binary offsets contents) h =
      let parts = and_parts (ends_within size offsets) _ h in
      rw (stays offsets parts.0) (stays contents parts.1)
  layout_stays (placed.List offsets items) h =
      let parts = and_parts (ends_within size offsets) _ h in
      rw (stays offsets parts.0) (items.value.1 parts.1)
  layout_stays (placed.FixedList items) h = items.value.1 h
  layout_stays (placed.Struct children) h = all_stay children.items h
  layout_stays (placed.Dictionary indices part) h =
      let parts = and_parts (ends_within size indices) _ h in
      rw (stays indices parts.0) (keeps part parts.1)

  array_stays : (y : PlacedArray-F StayingLayout StayingArray)
      → array_within size (map-PlacedArray _ _ _ _ layout_old (is_within_by size stands) (map-PlacedArray _ _ _ _ (λ e. e.0) (λ e. e.0) y)) ≡ true
      → array_within more (map-PlacedArray _ _ _ _ layout_new (is_within_by more later) (map-PlacedArray _ _ _ _ (λ e. e.0) (λ e. e.0) y)) ≡ true
  array_stays y h =
      let parts = and_parts (ends_within size y.validity) _ h in
      rw (stays y.validity parts.0) (y.layout.1 parts.1)

  pub within_more : (a : PlacedArray) → ArrayStays a
  within_more = ind-PlacedArray LayoutStays ArrayStays
      (λ x y is h.
      let rolled = sym (fold-roll-PlacedLayout Bool Bool (layout_within size stands) (array_within size) x) ∙ h in
      fold-roll-PlacedLayout Bool Bool (layout_within more later) (array_within more) x
      ∙ subst (λ z. layout_within size stands (map-PlacedLayout _ _ _ _ layout_old (is_within_by size stands) z) ≡ true
      → layout_within more later (map-PlacedLayout _ _ _ _ layout_new (is_within_by more later) z) ≡ true)
      is (layout_stays y) rolled)
      (λ x y is h.
      let rolled = sym (fold-roll-PlacedArray Bool Bool (layout_within size stands) (array_within size) x) ∙ h in
      fold-roll-PlacedArray Bool Bool (layout_within more later) (array_within more) x
      ∙ subst (λ z. array_within size (map-PlacedArray _ _ _ _ layout_old (is_within_by size stands) z) ≡ true
      → array_within more (map-PlacedArray _ _ _ _ layout_new (is_within_by more later) z) ≡ true)
      is (array_stays y) rolled)
