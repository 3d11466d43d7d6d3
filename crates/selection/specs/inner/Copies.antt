-- Copies of arrays: they are the same arrays, whatever bytes they stand in.
use Rattle.std.specs.Prelude.{◌≡◌, ℕ, List, map}
use Rattle.columns.specs.Array.{Array, Layout}
use Rattle.columns.specs.View.{layout_step, array_step, array_in}
use Rattle.columns.specs.declared.array.DictionaryPart.{DictionaryPart}
use Rattle.columns.specs.declared.array.PlacedArray.{PlacedArray}
use Rattle.columns.specs.declared.array.PlacedLayout.{PlacedLayout}
use Rattle.columns.specs.declared.array.PlacedLayout.TheFolds.{fold-PlacedLayout}

abbrev pub layout_in : List ℕ → (DictionaryPart → List Array) → PlacedLayout → Layout
layout_in bytes arrays_known = fold-PlacedLayout Layout Array (layout_step bytes arrays_known) (array_step bytes)

abbrev pub IsSameLayout : PlacedLayout → PlacedLayout → Type 0
IsSameLayout a b = (bytes : List ℕ) (known : DictionaryPart → List Array) → layout_in bytes known a ≡ layout_in bytes known b

abbrev pub IsSameArray : PlacedArray → PlacedArray → Type 0
IsSameArray a b = (bytes : List ℕ) (known : DictionaryPart → List Array) → array_in bytes known a ≡ array_in bytes known b

abbrev pub AreSameArrays : List PlacedArray → List PlacedArray → Type 0
AreSameArrays these those = (bytes : List ℕ) (known : DictionaryPart → List Array) → map (array_in bytes known) these ≡ map (array_in bytes known) those
