use Rattle.std.proofs.Common.{◌^◌, refl, arith, w64}
use Rattle.query.proofs.Lanes.{lanes_are, block_is}
use Rattle.query.proofs.blocks.of_64_bits.Goals as goal

pub returns : goal.returns
returns c =
    let values = c.args.values.now in
    let lanes = lanes_are 8 8 (2 ^ 64) c.args.first values refl (λ j h. omega (arith, h)) (omega (arith, c.requires)) c.type_inv.values in
    block_is w64 8 8 c.args.first c.args.by_order values _ c.from-below.result c.from-equal.result c.from-above.result
    c.from-below.ensures c.from-equal.ensures c.from-above.ensures (omega arith) lanes
