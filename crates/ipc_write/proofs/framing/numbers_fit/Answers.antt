use Rattle.std.proofs.Common.{take_all, subst, arith}
use Rattle.flatbuf.specs.Held.{FitsStructs}
use Rattle.ipc_write.proofs.BatchNode.{fits_next}
use Rattle.ipc_write.proofs.framing.numbers_fit.Goals as goal

pub loop-node-preserved : goal.loop-node-preserved
loop-node-preserved c = fits_next c.args.nodes.now c.loop-node.node-index (0, 0) (omega arith) c.loop-node.invariant (omega arith) (omega arith)

pub returns : goal.returns
returns c = subst FitsStructs (take_all c.loop-node.node-index c.args.nodes.now c.loop-node-test.false) c.loop-node.invariant
