use Rattle.std.proofs.Common.{◌≡◌, map, take}
use Rattle.table_cut.specs.inner.Seen.{entries_in, entries_held, held_in}
use Rattle.table_cut.proofs.seen.begin.Given as goal

abbrev pub invariant-loop-column : goal.invariant-loop-column
invariant-loop-column l = map entries_in l.sets.items ≡ map entries_held (map held_in (take l.column-index l.held))
