use Rattle.std.proofs.Common.{arith}
use Rattle.flatbuf.proofs.Cases.{offset_fits, field_fits}
use Rattle.flatbuf.proofs.sizes.inline_end.Goals as goal

pub aligned-requires : goal.aligned-requires
aligned-requires c = record {
  positive = c.in-Some.ensures.low;
  small = omega (arith, offset_fits c.args.slots.now c.loop-slot.slot-index c.loop-slot.offset _ c.loop-slot.invariant);
}

pub overflow_add-offset : goal.overflow_add-offset
overflow_add-offset c =
    omega (arith, c.aligned.ensures, field_fits c.args.slots.now c.loop-slot.slot-index c.slot-item.result c.loop-slot.offset c.in-Some.width _ (omega arith) c.slot-item.is (c.in-Some.ensures.inline c.loop-slot.offset) c.loop-slot.invariant)

pub aligned-requires-2 : goal.aligned-requires-2
aligned-requires-2 c = record {
  positive = omega arith;
  small = omega (arith, offset_fits c.args.slots.now c.loop-slot.slot-index c.loop-slot.offset _ c.loop-slot.invariant);
}
