-- The bytes that are written for an integer of 128 bits: its low ones.
use Rattle.std.specs.Prelude.{ℕ, ℤ, pos, List}
use Rattle.std.specs.Int.{w128, cast_unsigned}
use Rattle.byteorder.specs.Endian.{little_bytes}
use Rattle.cells.specs.Cell.{Cell, number}

abbrev pub number_or_zero : Cell → ℤ
number_or_zero (number n) = n
number_or_zero _ = pos 0

abbrev pub low_bytes_of : (size : ℕ) → Cell → List ℕ
low_bytes_of size c = little_bytes size (cast_unsigned w128 (number_or_zero c))
