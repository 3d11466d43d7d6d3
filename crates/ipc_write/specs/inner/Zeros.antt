-- Buffers of given lengths, of which nothing else is known.
use Rattle.std.specs.Prelude.{ℕ, List, map, replicate}

abbrev pub zeros : (lengths : List ℕ) → List (List ℕ)
zeros lengths = map (λ (n : ℕ). replicate n 0) lengths
