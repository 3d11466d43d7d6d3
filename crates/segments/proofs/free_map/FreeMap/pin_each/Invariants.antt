use Rattle.std.proofs.Common.{take}
use Rattle.segments.specs.Usages.{PinsAll}
use Rattle.segments.proofs.free_map.FreeMap.pin_each.Given as goal

abbrev pub invariant-loop-run : goal.invariant-loop-run
invariant-loop-run l = PinsAll l.fn.self l.self (take l.run-index l.runs)
