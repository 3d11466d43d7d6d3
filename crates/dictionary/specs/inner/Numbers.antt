-- Setting the number of an id.
use Rattle.std.specs.Prelude.{◌≡◌, ℕ, ◌==◌, ◌<◌, List, [], ◌∷◌, ◌++◌, length, Option, Some, None, if◌then◌else◌}
use Rattle.std.proofs.Common.{get_or}
use Rattle.std.proofs.Math.ListN.{set}
use Rattle.dictionary.specs.declared.current.CurrentList.{CurrentList}
use Rattle.dictionary.specs.Kept.{number_in}

abbrev pub numbered : ℕ → ℕ → CurrentList
numbered id n = record { id = id; number = n }

-- the number replaces that of the id, or is appended if the id had none
abbrev pub with_number : ℕ → ℕ → List CurrentList → List CurrentList
with_number id n [] = numbered id n ∷ []
with_number id n (c ∷ numbers) = if c.id == id then numbered id n ∷ numbers else c ∷ with_number id n numbers

-- the place of the number of an id, if it has one
abbrev pub IsPlace : ℕ → List CurrentList → Option ℕ → Type 0
IsPlace id numbers None = (number_in id numbers ≡ None) × ((n : ℕ) → with_number id n numbers ≡ numbers ++ numbered id n ∷ [])
IsPlace id numbers (Some i) =
    (i < length numbers) × ((n : ℕ) → with_number id n numbers ≡ set numbers i (numbered id n)) × ((c : CurrentList) → number_in id numbers ≡ Some (get_or numbers i c).number)
