-- Depths compared with a number of levels.
use Rattle.std.proofs.Common.{◌≡◌, ◌≢◌, ℕ, suc, ◌+◌, ◌-◌, max, true, false, ◌&&◌, arith}
use Rattle.std.specs.Prelude.{nat_le}
use Rattle.std.proofs.lemmas.Bool.Decides.{nat_tests}

-- the maximum of two is at most n if and only if both are
pub nat_le_max : (a b n : ℕ) → nat_le (max a b) n ≡ (nat_le a n && nat_le b n)
nat_le_max a b n = grind (arith, nat_tests)

-- one level down
pub nat_le_down : (d n : ℕ) → n ≢ 0 → nat_le (1 + d) n ≡ nat_le d (n - 1)
nat_le_down d n h = grind (arith, nat_tests)

pub nat_le_none : (d n : ℕ) → n ≡ 0 → nat_le (1 + d) n ≡ false
nat_le_none d n h = grind (arith, nat_tests)
