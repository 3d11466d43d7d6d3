use Rattle.std.proofs.Common.{take}
use Rattle.flatbuf.specs.Held.{FitsStructs}
use Rattle.ipc_write.proofs.framing.numbers_fit.Given as goal

abbrev pub invariant-loop-node : goal.invariant-loop-node
invariant-loop-node l = FitsStructs (take l.node-index l.nodes)
