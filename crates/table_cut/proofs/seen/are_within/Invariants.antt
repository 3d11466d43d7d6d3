use Rattle.std.proofs.Common.{◌≡◌, map, drop}
use Rattle.table_cut.specs.inner.Seen.{entries_in, held_in, are_within}
use Rattle.table_cut.proofs.seen.are_within.Given as goal

abbrev pub invariant-loop-i : goal.invariant-loop-i
invariant-loop-i l = are_within (map held_in (drop l.i l.held)) (map entries_in (drop l.i l.sets)) ≡ are_within (map held_in l.held) (map entries_in l.sets)
