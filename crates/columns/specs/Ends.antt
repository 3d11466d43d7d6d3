-- The number of entries in the arrays of a dictionary, and the running count at the end of each array.
use Rattle.std.specs.Prelude.{ℕ, ◌+◌, List, [], ◌∷◌}
use Rattle.std.specs.List.{sum_by}
use Rattle.columns.specs.declared.array.PlacedArray.{PlacedArray}

abbrev pub entry_count : List PlacedArray → ℕ
entry_count arrays = sum_by (λ a. a.slots) arrays

-- if `before` entries precede these arrays
abbrev pub ends_from : ℕ → List PlacedArray → List ℕ
ends_from before [] = []
ends_from before (a ∷ arrays) = (before + a.slots) ∷ ends_from (before + a.slots) arrays
