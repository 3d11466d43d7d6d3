use Rattle.std.proofs.Common.{◌^◌, refl, arith, w16}
use Rattle.query.proofs.Lanes.{lanes_are, block_is}
use Rattle.query.proofs.blocks.of_16_bits.Goals as goal

pub returns : goal.returns
returns c =
    let values = c.args.values.now in
    let lanes = lanes_are 2 32 (2 ^ 16) c.args.first values refl (λ j h. omega (arith, h)) (omega (arith, c.requires.room)) c.type_inv.values in
    block_is w16 2 32 c.args.first c.args.by_order values _ c.from-below.result c.from-equal.result c.from-above.result
    c.from-below.ensures c.from-equal.ensures c.from-above.ensures (omega arith) lanes
