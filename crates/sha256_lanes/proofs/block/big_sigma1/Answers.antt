use Rattle.std.proofs.Common.{slice_index, arith}
use Rattle.sha256_lanes.proofs.Rotations.{rotated_three}
use Rattle.sha256_lanes.proofs.block.big_sigma1.Goals as goal

pub returns : goal.returns
returns c j low =
    rw (c.rotated-3.ensures.value j low, c.xor-2.ensures j low, c.rotated-2.ensures.value j low, c.xor.ensures j low, c.rotated.ensures.value j low)
    (rotated_three 32 (slice_index c.args.x j) 6 5 14 (omega arith) (c.rotated.ensures.fits j low))
