use Rattle.std.proofs.Common.{arith}
use Rattle.store_changes.proofs.Turns.{part_more}
use Rattle.store_changes.proofs.preparing.borrowed_parts.Goals as goal

pub loop-part-preserved : goal.loop-part-preserved
loop-part-preserved c = record {
  all = part_more c.loop-part.borrowed.items c.push_reserved-in-loop-part.new.self.items c.bytes.result c.args.parts.now c.loop-part.part-index c.part-item.result _ c.loop-part-test.true c.part-item.is c.bytes.ensures
      c.push_reserved-in-loop-part.ensures.items c.loop-part.invariant.all;
  len = omega (arith, c.push_reserved-in-loop-part.ensures.len, c.loop-part.invariant.len);
  room = omega (arith, c.push_reserved-in-loop-part.ensures.capacity, c.loop-part.invariant.room);
}
