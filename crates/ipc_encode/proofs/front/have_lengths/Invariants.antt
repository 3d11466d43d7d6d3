use Rattle.std.proofs.Common.{◌≡◌, length, map, take}
use Rattle.batch_build.specs.Batch.{buffers_in}
use Rattle.ipc_encode.proofs.front.have_lengths.Given as goal

-- the buffers so far are so long
abbrev pub invariant-loop-i : goal.invariant-loop-i
invariant-loop-i l = map length (buffers_in (take l.i l.buffers)) ≡ take l.i l.lengths
