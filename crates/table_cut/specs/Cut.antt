-- The cut of rows into pieces: each is the longest front of the remaining rows that is within the limits.
use Rattle.std.specs.Prelude.{ℕ, Bool, List, [], ◌∷◌, ◌++◌, if◌then◌else◌, ◌&&◌, nat_le, length, sum_by}

-- the limits of a piece: a number of rows, and a weight
abbrev pub within_limits : {A : Type 0} → (A → ℕ) → ℕ → ℕ → List A → Bool
within_limits weight count total rows = nat_le (length rows) count && nat_le (sum_by weight rows) total

-- the pieces, if the rows `taken` are in the first of them already
abbrev pub pieces_from : {A : Type 0} → (List A → Bool) → List A → List A → List (List A)
pieces_from within taken [] = taken ∷ []
pieces_from within taken (row ∷ rows) =
    if within (taken ++ row ∷ []) then pieces_from within (taken ++ row ∷ []) rows else taken ∷ pieces_from within (row ∷ []) rows

-- the pieces of all rows; none if there is no row
abbrev pub pieces : {A : Type 0} → (List A → Bool) → List A → List (List A)
pieces within [] = []
pieces within (row ∷ rows) = pieces_from within (row ∷ []) rows
