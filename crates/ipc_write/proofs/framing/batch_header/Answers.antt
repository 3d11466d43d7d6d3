use Rattle.std.proofs.Common.{arith, ◌∙◌}
use Rattle.ipc_write.specs.inner.Zeros.{zeros}
use Rattle.ipc_write.proofs.BatchNode.{header_is, is_writable}
use Rattle.ipc_write.proofs.framing.batch_header.Goals as goal

pub returns-clause-node : goal.returns-clause-node
returns-clause-node c =
    c.in_ok-header.ensures ∙ header_is c.args.shape.rows c.args.shape.nodes.items c.in_ok-ranges.ranges.items (zeros c.args.shape.lengths.now) c.in_ok-ranges.ensures.ranges

pub returns-clause-writable : goal.returns-clause-writable
returns-clause-writable c =
    is_writable c.args.shape.rows c.args.shape.nodes.items (zeros c.args.shape.lengths.now) (omega arith) (rw c.deref.ensures.value at c.numbers_fit.ensures) c.requires
