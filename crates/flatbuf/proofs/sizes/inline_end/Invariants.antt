use Rattle.std.proofs.Common.{◌≡◌, map, drop}
use Rattle.flatbuf.specs.Laid.{inline_end}
use Rattle.flatbuf.specs.View.{slot_before, slots_in}
use Rattle.flatbuf.proofs.sizes.inline_end.Given as goal

abbrev pub invariant-loop-slot : goal.invariant-loop-slot
invariant-loop-slot l = inline_end l.offset (slots_in (map slot_before (drop l.slot-index l.slots))) ≡ inline_end 4 (slots_in (map slot_before l.slots))
