-- The slots of placed arrays.
use Rattle.std.specs.Prelude.{not, ◌||◌, ◌==◌}
use Rattle.std.specs.List.{list_any}
use Rattle.std.proofs.Common.{◌≡◌, ℕ, List, [], ◌∷◌, map, refl, ap, ◌∙◌}
use Rattle.columns.specs.declared.array.PlacedArray.{PlacedArray}
use Rattle.columns.specs.declared.array.Dictionary.{Dictionary}
use Rattle.columns.specs.declared.array.DictionaryPart.{DictionaryPart}
use Rattle.columns.specs.Array.{Array, array_list, slots_in}
use Rattle.columns.specs.View.{array_in, arrays_in, placed_arrays}
use Rattle.columns.specs.laws.Places.{slots_is, listed}

other : (bytes : List ℕ) (known : DictionaryPart → List Array) (length : ℕ) (xs : List PlacedArray)
    → list_any (λ a. not (slots_in a == length)) (map (array_in bytes known) xs) ≡ list_any (λ (x : PlacedArray). not (x.slots == length)) xs
other bytes known length [] = refl
other bytes known length (x ∷ xs) =
    let here : slots_in (array_in bytes known x) ≡ x.slots = slots_is bytes known x in
    λ j. not (here j == length) || other bytes known length xs j

pub any_other : (bytes : List ℕ) (all : List Dictionary) (length : ℕ) (xs : List PlacedArray)
    → list_any (λ a. not (slots_in a == length)) (array_list (placed_arrays bytes all xs)) ≡ list_any (λ (x : PlacedArray). not (x.slots == length)) xs
any_other bytes all length xs = ap (list_any (λ a. not (slots_in a == length))) (listed (map (array_in bytes (arrays_in bytes all)) xs)) ∙ other bytes (arrays_in bytes all) length xs
