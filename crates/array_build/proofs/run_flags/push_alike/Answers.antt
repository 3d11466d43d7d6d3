use Rattle.std.proofs.Common.{arith}
use Rattle.array_build.proofs.RunFlags.{alike_pushed}
use Rattle.array_build.proofs.run_flags.push_alike.Goals as goal

pub loop-preserved : goal.loop-preserved
loop-preserved c = record {
  flags = alike_pushed c.loop.flags.items _ c.push_reserved.new.self.items c.args.flag c.args.count c.loop.counter c.loop-test.true c.push_reserved.ensures.items c.loop.invariant.flags;
  room = omega (arith, c.push_reserved.ensures.len, c.push_reserved.ensures.capacity, c.loop.invariant.room, c.loop-test.true);
}
