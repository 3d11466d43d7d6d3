use Rattle.std.proofs.Common.{◌≡◌, take}
use Rattle.values.specs.inner.Starts.{part_lengths}
use Rattle.values.proofs.batches.part_lengths.Given as goal

abbrev pub invariant-loop-part : goal.invariant-loop-part
invariant-loop-part l = l.lengths.items ≡ part_lengths (take l.part-index l.parts)
