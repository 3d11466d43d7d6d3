-- The place of the first field of each dictionary id, as a map of them grows.
use Rattle.std.specs.Prelude.{◌≡◌, ◌⊎◌, ℕ, Option, Some}

-- the first field of an id is found: the id already had one, or it is this field; other ids keep theirs
pub record Adds (old new : ℕ → Option ℕ) (id place found : ℕ) : Type 0 where
  pub first : new id ≡ Some found
  pub kept : (q k : ℕ) → old q ≡ Some k → new q ≡ Some k
  pub added : (q k : ℕ) → new q ≡ Some k → (old q ≡ Some k) ⊎ ((q ≡ id) × (k ≡ place))
