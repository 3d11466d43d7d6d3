use Rattle.std.proofs.Common.{◌≡◌, ◌++◌, drop}
use Rattle.batch_build.specs.Batch.{joined_slices}
use Rattle.ipc_encode.proofs.stream.join_slices.Given as goal

abbrev pub invariant-loop-slice : goal.invariant-loop-slice
invariant-loop-slice l = l.last.items ++ joined_slices (drop l.slice-index l.slices) ≡ l.initial.last.items ++ joined_slices l.slices
