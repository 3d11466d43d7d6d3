use Rattle.std.proofs.Common.{arith}
use Rattle.bitmap.specs.Bits.{bit}
use Rattle.array_build.proofs.RunFlags.{slot_pushed}
use Rattle.array_build.proofs.run_flags.push_bits.Goals as goal

pub loop-i-preserved : goal.loop-i-preserved
loop-i-preserved c = record {
  flags = slot_pushed (bit c.args.bits.now) c.loop-i.flags.items _ c.push_reserved.new.self.items c.get.result c.args.to c.loop-i.i c.loop-i-test.true c.get.ensures
      c.push_reserved.ensures.items c.loop-i.invariant.flags;
  room = omega (arith, c.push_reserved.ensures.len, c.push_reserved.ensures.capacity, c.loop-i.invariant.room, c.loop-i-test.true);
}
