-- The children of structs, as places and as arrays.
use Rattle.std.specs.Prelude.{◌||◌, nat_lt}
use Rattle.std.specs.List.{list_any}
use Rattle.std.proofs.Common.{◌≡◌, ℕ, List, [], ◌∷◌, map, refl, ap, ◌∙◌}
use Rattle.columns.specs.declared.array.PlacedArray.{PlacedArray}
use Rattle.columns.specs.declared.array.Dictionary.{Dictionary}
use Rattle.columns.specs.declared.array.DictionaryPart.{DictionaryPart}
use Rattle.columns.specs.Array.{Array, array_list, slots_in}
use Rattle.columns.specs.View.{array_in, arrays_in, placed_arrays}
use Rattle.columns.specs.laws.Places.{slots_is, listed}

shorter : (bytes : List ℕ) (known : DictionaryPart → List Array) (slots : ℕ) (xs : List PlacedArray)
    → list_any (λ child. nat_lt (slots_in child) slots) (map (array_in bytes known) xs) ≡ list_any (λ (x : PlacedArray). nat_lt x.slots slots) xs
shorter bytes known slots [] = refl
shorter bytes known slots (x ∷ xs) =
    let here : slots_in (array_in bytes known x) ≡ x.slots = slots_is bytes known x in
    λ j. nat_lt (here j) slots || shorter bytes known slots xs j

pub any_shorter : (bytes : List ℕ) (dictionaries : List Dictionary) (slots : ℕ) (xs : List PlacedArray)
    → list_any (λ child. nat_lt (slots_in child) slots) (array_list (placed_arrays bytes dictionaries xs)) ≡ list_any (λ (x : PlacedArray). nat_lt x.slots slots) xs
any_shorter bytes dictionaries slots xs =
    ap (list_any (λ child. nat_lt (slots_in child) slots)) (listed (map (array_in bytes (arrays_in bytes dictionaries)) xs)) ∙ shorter bytes (arrays_in bytes dictionaries) slots xs
