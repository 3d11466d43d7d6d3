-- Bytes to which bits are appended.
use Rattle.std.specs.Prelude.{◌≡◌, ℕ, ◌*◌, ◌-◌, ◌<◌, ◌≤◌, Bool, List, length, map}
use Rattle.std.specs.List.{range_with_len}
use Rattle.bitmap.specs.Bits.{bit, packed}

-- the bits of the bytes without the last `free` ones
abbrev pub bits_within : List ℕ → ℕ → List Bool
bits_within bytes free = map (bit bytes) (range_with_len 0 (8 * length bytes - free))

-- fewer than eight bits are free, and the free bits are 0
pub record IsBuilt (bytes : List ℕ) (free : ℕ) : Type 0 where
  pub few : free < 8
  pub within : free ≤ 8 * length bytes
  pub exact : bytes ≡ packed (bits_within bytes free)
