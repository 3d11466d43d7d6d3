-- Placed arrays, and lists of arrays.
use Rattle.std.proofs.Common.{◌≡◌, ℕ, List, [], ◌∷◌, refl, ap}
use Rattle.columns.specs.declared.array.PlacedArray.{PlacedArray}
use Rattle.columns.specs.declared.array.DictionaryPart.{DictionaryPart}
use Rattle.columns.specs.declared.array.PlacedLayout.TheFolds.{fold_out-PlacedArray}
use Rattle.columns.specs.Array.{Array, Arrays, no_array, and_array, Layout, arrays_of, array_list, slots_in}
use Rattle.columns.specs.View.{array_in, layout_step, array_step}

-- a placed array has the number of slots that it states
pub slots_is : (bytes : List ℕ) (arrays_known : DictionaryPart → List Array) (x : PlacedArray) → slots_in (array_in bytes arrays_known x) ≡ x.slots
slots_is bytes arrays_known x = ap slots_in (fold_out-PlacedArray Layout Array (layout_step bytes arrays_known) (array_step bytes) x)

pub arrays_listed : (xs : Arrays) → arrays_of (array_list xs) ≡ xs
arrays_listed no_array = refl
arrays_listed (and_array a xs) = ap (and_array a) (arrays_listed xs)

pub listed : (xs : List Array) → array_list (arrays_of xs) ≡ xs
listed [] = refl
listed (x ∷ xs) = ap (λ ys. x ∷ ys) (listed xs)
