use Rattle.std.proofs.lemmas.Result.{err_from_is_err_and}
use Rattle.catalogue.specs.Reading.{many_at, segment_at}
use Rattle.catalogue.proofs.Parts.{goes_on, ends, is_done}
use Rattle.catalogue.proofs.decoding.segments_at.Goals as goal

pub returns-in_err-segment : goal.returns-in_err-segment
returns-in_err-segment c =
    let p = err_from_is_err_and c.from_residual.result c.from_residual.ensures.1 in
    rw (p.1, p.2) (ends (segment_at c.args.form) c.in_err-segment.field-0.0 c.loop.segments.items c.args.count c.loop.counter c.loop.rest.now (many_at (segment_at c.args.form) c.args.count c.args.bytes.now) c.loop-test.true c.in_err-segment.ensures c.loop.invariant)

pub loop-preserved : goal.loop-preserved
loop-preserved c =
    rw c.in_ok-push.ensures.items
    (goes_on (segment_at c.args.form) c.loop.segments.items c.args.count c.loop.counter c.loop.rest.now c.in_ok-segment.segment c.in_ok-segment.after.now (many_at (segment_at c.args.form) c.args.count c.args.bytes.now) c.loop-test.true c.in_ok-segment.ensures c.loop.invariant)

pub returns : goal.returns
returns c = is_done (segment_at c.args.form) c.loop.segments.items c.args.count c.loop.counter c.loop.rest.now (many_at (segment_at c.args.form) c.args.count c.args.bytes.now) c.loop-test.false c.loop.invariant
