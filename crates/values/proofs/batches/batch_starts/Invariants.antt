use Rattle.std.proofs.Common.{◌≡◌, map, take}
use Rattle.values.specs.inner.Starts.{starts_from, batch_lengths}
use Rattle.values.proofs.batches.batch_starts.Given as goal

abbrev pub invariant-loop-part : goal.invariant-loop-part
invariant-loop-part l = map (λ v. v.items) l.starts.items ≡ map (λ p. starts_from 0 (batch_lengths p)) (take l.part-index l.parts)
