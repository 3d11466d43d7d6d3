use Rattle.std.proofs.Common.{◌≡◌, ◌+◌, ◌++◌, map, drop, length}
use Rattle.flatbuf.specs.Held.{FitsStructs}
use Rattle.ipc_write.specs.Trees.{buffer_pair}
use Rattle.ipc_write.specs.Written.{body, placed}
use Rattle.ipc_write.specs.inner.Zeros.{zeros}
use Rattle.ipc_write.proofs.framing.ranges_of.Given as goal

-- the ranges so far, and those of the buffers that are left
abbrev pub invariant-loop-size : goal.invariant-loop-size
invariant-loop-size l =
    (l.ranges.items ++ map buffer_pair (placed l.end (zeros (drop l.size-index l.lengths))) ≡ map buffer_pair (placed 0 (zeros l.lengths)))
    × FitsStructs l.ranges.items
    × (l.end + length (body (zeros (drop l.size-index l.lengths))) ≡ length (body (zeros l.lengths)))
