-- Numbers that are written with a first number, which is advanced by 4,194,304 at a time.
use Rattle.std.specs.Prelude.{◌≤◌, ◌+◌, ◌^◌, ℕ, List}
use Rattle.dictionary_codes.specs.inner.PlaceFrom.{AreBelow}

-- there is room for each such number in 32 bits, and none was written with a later first one
pub record HaveRoom (first : ℕ) (written : List ℕ) : Type 0 where
  pub room : first + 2 ^ 22 ≤ 2 ^ 32
  pub below : AreBelow (first + 2 ^ 22) written
