-- Bits that are packed into bytes.
use Rattle.std.proofs.Common.{◌≡◌, ℕ, zero, suc, Bool, List, length, drop, refl, ap}
use Rattle.bitmap.specs.Bits.{packed_in}

pub length-packed_in : (n : ℕ) (bits : List Bool) → length (packed_in n bits) ≡ n
length-packed_in zero bits = refl
length-packed_in (suc n) bits = ap suc (length-packed_in n (drop 8 bits))
