-- Flat arrays that are equal, each in its own bytes.
use Rattle.std.specs.Prelude.{◌≡◌, ℕ, List}
use Rattle.columns.specs.View.{array_in, no_dictionary}
use Rattle.columns.specs.declared.array.PlacedArray.{PlacedArray}
use Rattle.columns.specs.declared.array.PlacedLayout.{PlacedLayout}
use Rattle.columns.specs.FlatLayouts.{flat_layout}

abbrev pub IsSameLayout : (own : List ℕ) → PlacedLayout → (others : List ℕ) → PlacedLayout → Type 0
IsSameLayout own a others b = flat_layout others b ≡ flat_layout own a

abbrev pub IsSameArray : (own : List ℕ) → PlacedArray → (others : List ℕ) → PlacedArray → Type 0
IsSameArray own a others b = array_in others no_dictionary b ≡ array_in own no_dictionary a
