-- Streams at some places of a list.
use Rattle.std.specs.Prelude.{ℕ, List, [], map, get_or}

abbrev pub streams_at : List (List ℕ) → (places : List ℕ) → List (List ℕ)
streams_at streams places = map (λ (i : ℕ). get_or streams i []) places
