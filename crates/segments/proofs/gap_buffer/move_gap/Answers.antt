use Rattle.std.proofs.Common.{◌∙◌, arith}
use Rattle.segments.proofs.Gaps.{gone_back, gone_on}
use Rattle.segments.proofs.gap_buffer.move_gap.Goals as goal

pub loop-behind-preserved : goal.loop-behind-preserved
loop-behind-preserved c = record {
  entries =
      gone_back c.loop-behind.before.items c.loop-behind.behind.items c.take_last.new.self.items c.push_reserved.new.self.items c.take_last.result c.take_last.ensures.items c.push_reserved.ensures.items
      ∙ c.loop-behind.invariant.entries;
  len = omega (arith, c.take_last.ensures.len, c.push_reserved.ensures.len, c.loop-behind.invariant.len);
  onward = c.take_last.ensures.capacity ∙ c.loop-behind.invariant.onward;
  back = c.push_reserved.ensures.capacity ∙ c.loop-behind.invariant.back;
}

pub loop-before-preserved : goal.loop-before-preserved
loop-before-preserved c = record {
  entries =
      gone_on c.loop-before.before.items c.loop-before.behind.items c.push_reserved-in-loop-before.new.self.items c.take_last-in-loop-before.new.self.items c.take_last-in-loop-before.result c.take_last-in-loop-before.ensures.items c.push_reserved-in-loop-before.ensures.items
      ∙ c.loop-before.invariant.entries;
  len = omega (arith, c.take_last-in-loop-before.ensures.len, c.push_reserved-in-loop-before.ensures.len, c.loop-before.invariant.len);
  onward = c.push_reserved-in-loop-before.ensures.capacity ∙ c.loop-before.invariant.onward;
  place = omega (arith, c.push_reserved-in-loop-before.ensures.len, c.loop-before-test.true);
}
