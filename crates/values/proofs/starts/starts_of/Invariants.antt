use Rattle.std.specs.Prelude.{sum}
use Rattle.std.proofs.Common.{◌≡◌, ◌+◌, ◌++◌, drop}
use Rattle.values.specs.inner.Starts.{starts_from}
use Rattle.values.proofs.starts.starts_of.Given as goal

abbrev pub invariant-loop-count : goal.invariant-loop-count
invariant-loop-count l = record {
  starts : l.starts.items ++ starts_from l.start (drop l.count-index l.lengths) ≡ starts_from 0 l.lengths;
  whole : l.start + sum (drop l.count-index l.lengths) ≡ sum l.lengths;
}
