use Rattle.std.proofs.Common.{take}
use Rattle.ipc_encode.specs.View.{joined_parts}
use Rattle.ipc_encode.specs.inner.Writing.{Gathers}
use Rattle.ipc_encode.proofs.writing.put_parts.Given as goal

-- the parts so far are written or gathered
abbrev pub invariant-loop-part : goal.invariant-loop-part
invariant-loop-part g l =
    Gathers (g.W.Write.contents l.fn.writer) (g.W.Write.contents l.writer) l.fn.gathered.items l.gathered.items (joined_parts (take l.part-index l.parts))
