use Rattle.std.proofs.Common.{◌≡◌, ◌+◌, length, drop}
use Rattle.batch_build.specs.Batch.{joined_slices}
use Rattle.batch_build.proofs.batch.count_bytes.Given as goal

-- what is counted, and the bytes of the slices that are left
abbrev pub invariant-loop-slice : goal.invariant-loop-slice
invariant-loop-slice l = l.count + length (joined_slices (drop l.slice-index l.slices)) ≡ length (joined_slices l.slices)
