-- Places that are written as their sums with a first number.
use Rattle.std.specs.Prelude.{◌<◌, ◌-◌, ℕ, List, Option, Some, None, get_or, nat_lt, if◌then◌else◌}

-- the place that is written so; below the first number there is none
abbrev pub place_from : (first written : ℕ) → Option ℕ
place_from first written = if nat_lt written first then None else Some (written - first)

-- no number reaches an end, which is above 0
abbrev pub AreBelow : ℕ → List ℕ → Type 0
AreBelow end xs = (n : ℕ) → get_or xs n 0 < end
