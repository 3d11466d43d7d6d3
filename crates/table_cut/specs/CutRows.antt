-- The cut, by what it is: joined, the pieces are the rows; none is empty, each is within the limits, and none could take the next row.
use Rattle.std.specs.Prelude.{◌≡◌, ◌≢◌, Bool, true, false, List, [], ◌∷◌, ◌++◌}
use Rattle.std.specs.List.{flat_map}

-- the rows that follow a piece begin with one that it has no room for
abbrev pub HasNoRoom : {A : Type 0} → (List A → Bool) → List A → List A → Type 0
HasNoRoom within piece [] = Unit {0}
HasNoRoom within piece (row ∷ rows) = within (piece ++ row ∷ []) ≡ false

abbrev pub joined : {A : Type 0} → List (List A) → List A
joined pieces = flat_map (λ piece. piece) pieces

abbrev pub AreLongest : {A : Type 0} → (List A → Bool) → List (List A) → Type 0
AreLongest within [] = Unit {0}
AreLongest within (piece ∷ others) = (piece ≢ []) × (within piece ≡ true) × HasNoRoom within piece (joined others) × AreLongest within others

pub record IsCut {A : Type 0} (within : List A → Bool) (rows : List A) (pieces : List (List A)) : Type 0 where
  pub whole : joined pieces ≡ rows
  pub longest : AreLongest within pieces

-- each row by itself is within the limits
abbrev pub EachWithin : {A : Type 0} → (List A → Bool) → List A → Type 0
EachWithin within [] = Unit {0}
EachWithin within (row ∷ rows) = (within (row ∷ []) ≡ true) × EachWithin within rows
