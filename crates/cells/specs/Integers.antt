-- Integers of a given width in bytes, in two's complement if they are signed.
use Rattle.std.specs.Prelude.{ℕ, ℤ, pos, negsuc, Bool, ◌+◌, ◌-◌, ◌*◌, ◌^◌, if◌then◌else◌}
use Rattle.byteorder.specs.Endian.{twos_complement}

-- the integer that a number of this width stands for
abbrev pub integer_of : ℕ → Bool → ℕ → ℤ
integer_of width signed n = if signed then twos_complement width n else pos n

-- the number of this width that stands for an integer
abbrev pub number_of : ℕ → ℤ → ℕ
number_of width (pos n) = n
number_of width (negsuc n) = 2 ^ (8 * width) - (n + 1)
