use Rattle.std.proofs.Common.{arith}
use Rattle.store.specs.declared.salvaging.LeftOut.{LeftOut}
use Rattle.arrowstore.proofs.LeftOutLemmas.{one_more, none_left}
use Rattle.arrowstore.proofs.ending.tell_each.Goals as goal

-- whatever stands for one past the end
abbrev no_segment : LeftOut
no_segment = record { place = 0; rows = 0 }

pub loop-segment-init : goal.loop-segment-init
loop-segment-init g c = λ last all. all

pub loop-segment-preserved : goal.loop-segment-preserved
loop-segment-preserved g c =
    let W = g.E.Write in
    one_more (W.contents c.args.errors.now) (W.contents c.loop-segment.errors) (W.contents c.tell_left_out.new.errors) c.args.left_out.now c.loop-segment.segment-index no_segment
    c.loop-segment-test.true c.in_ok-tell_left_out.ensures c.loop-segment.invariant

pub returns : goal.returns
returns g c =
    let W = g.E.Write in
    none_left (W.contents c.args.errors.now) (W.contents c.loop-segment.errors) c.args.left_out.now c.loop-segment.segment-index (omega (arith, c.loop-segment-test.false)) c.loop-segment.invariant
