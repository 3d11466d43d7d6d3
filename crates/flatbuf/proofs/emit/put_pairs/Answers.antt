use Rattle.std.proofs.Common.{arith}
use Rattle.flatbuf.proofs.Puts.{pairs_put}
use Rattle.flatbuf.proofs.emit.put_pairs.Goals as goal

pub loop-pair-preserved : goal.loop-pair-preserved
loop-pair-preserved c = pairs_put c.loop-pair.out.items _ _ c.loop-pair.pair-index c.args.pairs.now _ (omega arith) c.in_ok-put_pair.ensures c.loop-pair.invariant
