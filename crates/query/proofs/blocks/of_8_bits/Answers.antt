use Rattle.std.proofs.Common.{arith, w8}
use Rattle.std.specs.Simd.Lanes.{chunk}
use Rattle.query.proofs.Lanes.{bytes_are, block_is}
use Rattle.query.proofs.blocks.of_8_bits.Goals as goal

pub returns : goal.returns
returns c =
    let values = c.args.values.now in
    let first = c.args.first in
    block_is w8 1 64 first c.args.by_order values (chunk first 64 values) c.from-below.result c.from-equal.result c.from-above.result
    c.from-below.ensures c.from-equal.ensures c.from-above.ensures (omega arith) (bytes_are 64 first values c.requires.room)
