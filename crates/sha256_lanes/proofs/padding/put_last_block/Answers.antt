use Rattle.std.proofs.Common.{arith}
use Rattle.sha256_lanes.proofs.Blocks.{block_of_bytes}
use Rattle.sha256_lanes.proofs.padding.put_last_block.Goals as goal

pub returns : goal.returns
returns c =
    block_of_bytes c.args.message.now c.bytes.block c.args.n c.requires.within c.bytes.invariant.0 (λ k lt. c.bytes.invariant.1 k (omega arith))
