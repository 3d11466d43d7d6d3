-- Arrays that stand in bytes are of bytes.
use Rattle.std.proofs.Common.{◌≡◌, ℕ, true, List, [], ◌∷◌, map, take, drop, refl, ap, subst, ◌∙◌}
use Rattle.std.proofs.lemmas.Bool.{and_from}
use Rattle.columns.specs.declared.array.PlacedArray.{PlacedArray}
use Rattle.columns.specs.declared.array.PlacedLayout.{PlacedLayout}
use Rattle.columns.specs.declared.array.PlacedLayout.TheOpen.{PlacedArray-F, PlacedLayout-F}
use Rattle.columns.specs.declared.array.PlacedLayout.TheOpen as placed
use Rattle.columns.specs.declared.array.PlacedLayout.TheFolds.{fold-PlacedLayout, ind-PlacedArray, map-PlacedLayout, map-PlacedArray, fold-roll-PlacedLayout, fold-roll-PlacedArray}
use Rattle.columns.specs.declared.array.Dictionary.{Dictionary}
use Rattle.columns.specs.declared.array.DictionaryPart.{DictionaryPart}
use Rattle.columns.specs.declared.span.Span.{Span}
use Rattle.columns.specs.Array.{Array, Layout, arrays_of}
use Rattle.columns.specs.Places.{within}
use Rattle.columns.specs.View.{layout_step, array_step, array_in, arrays_in, arrays_numbered, no_dictionary, placed_arrays}
use Rattle.arrays.specs.Bytes.{are_bytes, has_bytes, has_layout_bytes, have_bytes}
use Rattle.arrays.specs.laws.Bytes.{are_bytes-drop, are_bytes-take}

module _ (bytes : List ℕ) (known : DictionaryPart → List Array) (small : are_bytes bytes ≡ true) (smalls : (p : DictionaryPart) → have_bytes (arrays_of (known p)) ≡ true) where
  abbrev ArrayHas : PlacedArray → Type 0
  ArrayHas a = has_bytes (array_in bytes known a) ≡ true

  abbrev layout_of : PlacedLayout → Layout
  layout_of = fold-PlacedLayout Layout Array (layout_step bytes known) (array_step bytes)

  abbrev LayoutHas : PlacedLayout → Type 0
  LayoutHas l = has_layout_bytes (layout_of l) ≡ true

  abbrev LayoutOfBytes : Type 0
  LayoutOfBytes = (l : PlacedLayout) × LayoutHas l

  abbrev ArrayOfBytes : Type 0
  ArrayOfBytes = (a : PlacedArray) × ArrayHas a

  span_bytes : (span : Span) → are_bytes (within bytes span) ≡ true
  span_bytes span = are_bytes-take span.len (drop span.start bytes) (are_bytes-drop span.start bytes small)

  all_have : (xs : List ArrayOfBytes) → have_bytes (arrays_of (map (array_in bytes known) (map (λ e. e.0) xs))) ≡ true
  unfolding have_bytes
  all_have [] = refl
  all_have (x ∷ xs) = and_from _ _ x.1 (all_have xs)

  layout_has : (y : PlacedLayout-F LayoutOfBytes ArrayOfBytes)
      → has_layout_bytes (layout_step bytes known (map-PlacedLayout _ _ _ _ layout_of (array_in bytes known) (map-PlacedLayout _ _ _ _ (λ e. e.0) (λ e. e.0) y))) ≡ true
  unfolding has_layout_bytes
  layout_has (placed.Fixed values) = span_bytes values
  layout_has (placed.List offsets items) = items.value.1
  layout_has (placed.FixedList items) = items.value.1
  layout_has (placed.Struct children) = all_have children.items
  layout_has (placed.Dictionary indices part) = and_from _ _ (span_bytes indices) (smalls part)
  layout_has _ = refl

  array_has : (y : PlacedArray-F LayoutOfBytes ArrayOfBytes)
      → has_bytes (array_step bytes (map-PlacedArray _ _ _ _ layout_of (array_in bytes known) (map-PlacedArray _ _ _ _ (λ e. e.0) (λ e. e.0) y))) ≡ true
  unfolding has_bytes
  array_has y = y.layout.1

  pub has : (a : PlacedArray) → ArrayHas a
  has = ind-PlacedArray LayoutHas ArrayHas
      (λ x y is.
      ap has_layout_bytes (fold-roll-PlacedLayout Layout Array (layout_step bytes known) (array_step bytes) x)
      ∙ subst (λ z. has_layout_bytes (layout_step bytes known (map-PlacedLayout _ _ _ _ layout_of (array_in bytes known) z)) ≡ true) is (layout_has y))
      (λ x y is.
      ap has_bytes (fold-roll-PlacedArray Layout Array (layout_step bytes known) (array_step bytes) x)
      ∙ subst (λ z. has_bytes (array_step bytes (map-PlacedArray _ _ _ _ layout_of (array_in bytes known) z)) ≡ true) is (array_has y))

each_has : (bytes : List ℕ) (known : DictionaryPart → List Array) → are_bytes bytes ≡ true → ((p : DictionaryPart) → have_bytes (arrays_of (known p)) ≡ true)
    → (xs : List PlacedArray) → have_bytes (arrays_of (map (array_in bytes known) xs)) ≡ true
unfolding have_bytes
each_has bytes known small smalls [] = refl
each_has bytes known small smalls (x ∷ xs) = and_from _ _ (has bytes known small smalls x) (each_has bytes known small smalls xs)

none_has : (p : DictionaryPart) → have_bytes (arrays_of (no_dictionary p)) ≡ true
unfolding have_bytes
none_has p = refl

entries_have : (bytes : List ℕ) (dictionaries : List Dictionary) → are_bytes bytes ≡ true → (p : DictionaryPart) → have_bytes (arrays_of (arrays_in bytes dictionaries p)) ≡ true
unfolding have_bytes
entries_have bytes [] small p = refl
entries_have bytes (d ∷ dictionaries) small p = each_has bytes no_dictionary small none_has (take p.count (arrays_numbered (d ∷ dictionaries) p.number))

pub placed_bytes : (bytes : List ℕ) (dictionaries : List Dictionary) (arrays : List PlacedArray) → are_bytes bytes ≡ true → have_bytes (placed_arrays bytes dictionaries arrays) ≡ true
placed_bytes bytes dictionaries arrays small = each_has bytes (arrays_in bytes dictionaries) small (entries_have bytes dictionaries small) arrays
