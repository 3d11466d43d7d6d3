use Rattle.segments.specs.Usages.{IsSearched}
use Rattle.test_device.proofs.free_map.takes_among_65536.Given as goal

abbrev pub invariant-loop-i : goal.invariant-loop-i
invariant-loop-i l = IsSearched l.map l.searched
