-- The bits of a part of a mask, all of which are set if it has no byte.
use Rattle.std.specs.Prelude.{ℕ, Bool, ◌||◌, ◌==◌, List, length, map}
use Rattle.std.specs.List.{range_with_len}
use Rattle.bitmap.specs.Bits.{bit}

-- ---- masks that are written as a validity bitmap: all bits are set if it has no byte

-- a bit of such a mask, and `n` bits from bit `at` on
abbrev pub part_bit : List ℕ → ℕ → Bool
part_bit mask i = length mask == 0 || bit mask i

unfoldable pub part_bits : List ℕ → (at n : ℕ) → List Bool
part_bits mask at n = map (part_bit mask) (range_with_len at n)
