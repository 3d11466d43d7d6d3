use Rattle.std.proofs.Common.{ℕ, ◌/◌, ◌^◌, bit_xor, slice_index, ap, arith}
use Rattle.sha256_lanes.proofs.Rotations.{rotated_two}
use Rattle.sha256_lanes.proofs.block.small_sigma1.Goals as goal

pub returns : goal.returns
returns c j low =
    rw (c.xor-2.ensures j low, c.shifted.ensures j low, c.rotated-2.ensures.value j low, c.xor.ensures j low, c.rotated.ensures.value j low)
    (ap (λ (y : ℕ). bit_xor y (slice_index c.args.x j / 2 ^ 10)) (rotated_two 32 (slice_index c.args.x j) 17 2 (omega arith) (c.rotated.ensures.fits j low)))
