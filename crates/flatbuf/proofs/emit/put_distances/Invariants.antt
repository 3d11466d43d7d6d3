use Rattle.std.proofs.Common.{◌≡◌, ◌++◌, drop, map}
use Rattle.flatbuf.specs.Laid.{distances, inline_end}
use Rattle.flatbuf.specs.View.{slot_before, slots_in}
use Rattle.flatbuf.proofs.emit.put_distances.Given as goal

abbrev pub invariant-loop-slot : goal.invariant-loop-slot
invariant-loop-slot l = record {
  bytes : l.out.items ++ distances l.offset (slots_in (map slot_before (drop l.slot-index l.slots))) ≡ l.initial.out.items ++ distances 4 (slots_in (map slot_before l.slots));
  end : inline_end l.offset (slots_in (map slot_before (drop l.slot-index l.slots))) ≡ inline_end 4 (slots_in (map slot_before l.slots));
}
