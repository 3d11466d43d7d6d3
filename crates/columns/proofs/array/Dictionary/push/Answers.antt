use Rattle.std.proofs.Common.{◌∙◌}
use Rattle.columns.proofs.Ends.{pushed_count, pushed_ends, pushed_few}
use Rattle.columns.proofs.array.Dictionary.push.Goals as goal

pub invariant_of-self-2 : goal.invariant_of-self-2
invariant_of-self-2 c = record {
  counted = pushed_count c.args.self.now.arrays.items c.push.new.self.items c.args.array c.args.self.now.entries c.in_ok-push.ensures.items c.args.self.now.counted;
  ended = pushed_ends c.args.self.now.arrays.items c.push.new.self.items c.reserve.new.self.items c.push_reserved.new.self.items c.args.array c.args.self.now.entries c.in_ok-push.ensures.items c.args.self.now.counted (c.in_ok-reserve.ensures.items ∙ c.args.self.now.ended) c.push_reserved.ensures.items;
  few = pushed_few c.args.self.now.arrays.items c.push.new.self.items c.args.array c.args.self.now.entries c.in_ok-push.ensures.items c.args.self.now.few search;
}
