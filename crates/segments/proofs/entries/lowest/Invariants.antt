use Rattle.std.proofs.Common.{◌<◌}
use Rattle.segments.proofs.Lowest.{Passed}
use Rattle.segments.proofs.entries.lowest.Given as goal

abbrev pub invariant-loop-index : goal.invariant-loop-index
invariant-loop-index l = record {
  passed : Passed l.size l.entries l.searched.start l.searched.widest l.index;
  narrow : l.searched.widest < l.count;
}
