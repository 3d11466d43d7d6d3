use Rattle.std.proofs.Common.{◌≡◌, ◌++◌, map, take, drop, length}
use Rattle.table_cut.specs.inner.Seen.{entries_in, held_in, with_all}
use Rattle.table_cut.proofs.seen.note_each.Given as goal

abbrev pub invariant-loop-i : goal.invariant-loop-i
invariant-loop-i l =
    let now = map entries_in l.sets in
    record {
      all : take l.i now ++ with_all (drop l.i now) (map held_in (drop l.i l.held)) ≡ with_all (map entries_in l.fn.sets) (map held_in l.held);
      as_many : length l.sets ≡ length l.held;
    }
