-- Masks: a bit for each row.
use Rattle.std.specs.Prelude.{◌≡◌, ℕ, Bool, false, List, length, slice_index_or}
use Rattle.bitmap.specs.Bits.{bit, bytes_of}

-- the mask has these bits, and no other bit is set
pub record IsMask (mask : List ℕ) (bits : List Bool) : Type 0 where
  pub each : (i : ℕ) → bit mask i ≡ slice_index_or bits i false
  pub size : length mask ≡ bytes_of (length bits)
