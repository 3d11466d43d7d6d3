use Rattle.std.proofs.Common.{◌≡◌, ◌++◌, ◌≤◌, drop, map}
use Rattle.flatbuf.specs.Laid.{inline, inline_end, slot_starts}
use Rattle.flatbuf.specs.Ends.{below_ends_at}
use Rattle.flatbuf.specs.View.{slot_before, slots_in}
use Rattle.flatbuf.proofs.emit.put_inline.Given as goal

abbrev pub invariant-loop-slot : goal.invariant-loop-slot
invariant-loop-slot l =
    let rest = slots_in (map slot_before (drop l.slot-index l.slots)) in
    let all = slots_in (map slot_before l.slots) in
    record {
      bytes : l.out.items ++ inline l.at l.reached.offset (slot_starts l.reached.cursor rest) rest ≡ l.initial.out.items ++ inline l.at 4 (slot_starts l.below all) all;
      end : inline_end l.reached.offset rest ≡ inline_end 4 all;
      low : l.below ≤ l.reached.cursor;
      below : below_ends_at l.reached.cursor rest ≡ below_ends_at l.below all;
    }
