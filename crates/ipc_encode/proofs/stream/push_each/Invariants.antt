use Rattle.std.proofs.Common.{◌≡◌, ◌++◌, drop}
use Rattle.batch_build.specs.Batch.{joined_slices}
use Rattle.ipc_encode.specs.View.{joined_parts}
use Rattle.ipc_encode.proofs.stream.push_each.Given as goal

abbrev pub invariant-loop-slice : goal.invariant-loop-slice
invariant-loop-slice l = joined_parts l.parts.items ++ joined_slices (drop l.slice-index l.slices) ≡ joined_parts l.initial.parts.items ++ joined_slices l.slices
