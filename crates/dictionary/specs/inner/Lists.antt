-- Appending to a list of arrays.
use Rattle.std.specs.Prelude.{ℕ, List, [], ◌∷◌, ◌++◌, get_or, slice_set}
use Rattle.columns.specs.declared.array.PlacedArray.{PlacedArray}

-- the lists, where the one at place n has one more array
abbrev pub with_array : ℕ → PlacedArray → List (List PlacedArray) → List (List PlacedArray)
with_array n a lists = slice_set lists n (get_or lists n [] ++ a ∷ [])
