use Rattle.std.proofs.Common.{◌<◌, length, arith}
use Rattle.std.proofs.lemmas.Grind.{common_steps}
use Rattle.sector_dev.proofs.Marks.{marks_kept, marks_more}
use Rattle.sector_dev.proofs.model_file.calls.mark_row.Goals as goal

pub loop-n-init : goal.loop-n-init
loop-n-init c = record {
  room = c.if-not-reach_marks.ensures.reached;
  marked = marks_kept c.args.start c.args.marks.now.items c.reach_marks.new.marks.items c.reach_marks.ensures.same;
}

pub loop-n-preserved : goal.loop-n-preserved
loop-n-preserved c = record {
  room = grind (arith, common_steps);
  marked = marks_more c.args.start c.loop-n.n c.args.marks.now.items c.loop-n.marks.items (let room : c.loop-n.n < length c.loop-n.marks.items = omega (arith, c.loop-n.invariant.room) in room) c.loop-n.invariant.marked;
}
