use Rattle.std.specs.Prelude.{get_or}
use Rattle.std.proofs.Common.{◌+◌, [], List, refl, ap, ◌∙◌, subst, arith, take_all}
use Rattle.sector_dev.specs.Disk.{now, shown_image}
use Rattle.catalogue.specs.declared.entry.Segment.{Segment}
use Rattle.commit.specs.Standing.{is_size}
use Rattle.store_runs.specs.Calls.{done, refused}
use Rattle.store_changes.specs.inner.ReadRows.{ReadsRows, ReadsNext}
use Rattle.store_changes.specs.Ahead.{segment_at}
use Rattle.store_changes.specs.ReadSegment.{UnreadsSegment}
use Rattle.store_changes.specs.laws.Ahead.{still_readable, is_next, goes_ahead}
use Rattle.store_changes.specs.laws.ReadTables.{no_segment, at_place, unreads_step, reads_more, reads_none, image_then}
use Rattle.store_changes.specs.laws.ReadRows.{no_rows, reads_none_of, reads_step}
use Rattle.store.proofs.taking.take_segments.Goals as goal

pub loop-place-init : goal.loop-place-init
loop-place-init g c =
    let D = g.D.SegmentSource in
    record {
      reads = reads_none D.size D.story D.failed D.tells c.args.device.now;
      goes_on = g.met.D.SegmentSource.stays c.args.device.now;
      ahead = c.new-ahead.ensures D.tells (shown_image (now (D.story c.args.device.now)));
      light = omega arith;
      takes = c.requires.takes;
      taken = λ s within message. ([], reads_none_of D.tells (shown_image (now (D.story c.args.device.now))) s (no_rows s within), g.met.T.TakesRows.begins c.args.start, refl);
    }

-- ---- what is asked of the segment at a place

pub take_segment-requires-clause-size : goal.take_segment-requires-clause-size
take_segment-requires-clause-size g c = ap is_size c.loop-place.invariant.reads.same ∙ c.requires.size

pub take_segment-requires-clause-next : goal.take_segment-requires-clause-next
take_segment-requires-clause-next g c =
    let D = g.D.SegmentSource in
    let start = c.args.device.now in
    let device = c.loop-place.device in
    let segments = c.args.segments.now in
    is_next D.tells (shown_image (now (D.story device))) segments c.loop-place.place c.loop-place.ahead (D.can_read device) c.loop-place-test.true
    (still_readable (D.can_read start) (D.can_read device) segments (λ place. g.met.D.SegmentSource.still start device place c.loop-place.invariant.goes_on) c.requires.readable) c.requires.sound c.loop-place.invariant.ahead

-- ---- one segment more

pub loop-place-preserved : goal.loop-place-preserved
loop-place-preserved g c =
    let D = g.D.SegmentSource in
    let segments = c.args.segments.now in
    let place = c.loop-place.place in
    let segment = get_or segments place no_segment in
    let inside = c.loop-place-test.true in
    let same = c.loop-place.invariant.ahead.same in
    let before = D.story c.args.device.now in
    let mid = D.story c.loop-place.device in
    record {
      reads = reads_more D.size D.story D.failed D.tells done c.args.device.now c.loop-place.device c.take_segment.new.device c.loop-place.invariant.reads c.in-Ok.ensures.reads;
      goes_on = g.met.D.SegmentSource.onward c.args.device.now c.loop-place.device c.take_segment.new.device c.loop-place.invariant.goes_on c.in-Ok.ensures.goes_on;
      ahead = goes_ahead D.tells (shown_image (now (D.story c.take_segment.new.device))) segments (place + 1) c.take_segment.new.ahead c.loop-place.ahead same c.in-Ok.ensures.ahead;
      light = c.in-Ok.ensures.light;
      takes = c.in-Ok.ensures.takes;
      taken = λ s within message.
          let so_far = c.loop-place.invariant.taken s within message in
          let next = c.in-Ok.ensures.taken c.args.start s so_far.0 message so_far.1.kept so_far.3 so_far.2 in (
            next.0,
            reads_step D.tells (shown_image (now before)) (shown_image (now mid)) (λ told. image_then before mid (c.loop-place.invariant.reads.moments told)) s segments place segment inside
                (at_place segments place inside segment refl) so_far.0 next.0 so_far.1
                (subst (λ (gs : List Segment). ReadsNext D.tells (shown_image (now mid)) s so_far.0 (segment_at gs place) next.0) same next.1),
            next.2,
            next.3,
          );
    }

pub returns-in-Err-clause-reads : goal.returns-in-Err-clause-reads
returns-in-Err-clause-reads g c =
    let D = g.D.SegmentSource in
    reads_more D.size D.story D.failed D.tells (refused c.in-Err.refusal) c.args.device.now c.loop-place.device c.take_segment.new.device c.loop-place.invariant.reads c.in-Err.ensures.reads

pub returns-in-Err-clause-goes_on : goal.returns-in-Err-clause-goes_on
returns-in-Err-clause-goes_on g c =
    g.met.D.SegmentSource.onward c.args.device.now c.loop-place.device c.take_segment.new.device c.loop-place.invariant.goes_on c.in-Err.ensures.goes_on

pub returns-in-Err-clause-unread : goal.returns-in-Err-clause-unread
returns-in-Err-clause-unread g c = λ s name page within message.
    let D = g.D.SegmentSource in
    let segments = c.args.segments.now in
    let place = c.loop-place.place in
    let segment = get_or segments place no_segment in
    let inside = c.loop-place-test.true in
    let same = c.loop-place.invariant.ahead.same in
    let so_far = c.loop-place.invariant.taken s within message in
    let before = D.story c.args.device.now in
    let mid = D.story c.loop-place.device in
    unreads_step D.tells (shown_image (now before)) (shown_image (now mid)) (record { name = name; schema = s; segments = segments; page = page }) s so_far.0 segment place c.in-Err.refusal refl
    (λ told. image_then before mid (c.loop-place.invariant.reads.moments told)) inside (at_place segments place inside segment refl) so_far.1.kept.weight so_far.1.held
    (subst (λ (gs : List Segment). UnreadsSegment D.tells (shown_image (now mid)) s so_far.0 (segment_at gs place) place c.in-Err.refusal) same (c.in-Err.ensures.unread s so_far.0 within message so_far.3))

-- ---- all were read

pub returns-clause-reads : goal.returns-clause-reads
returns-clause-reads g c = c.loop-place.invariant.reads

pub returns-clause-goes_on : goal.returns-clause-goes_on
returns-clause-goes_on g c = c.loop-place.invariant.goes_on

pub returns-clause-taken : goal.returns-clause-taken
returns-clause-taken g c = λ s within message.
    let D = g.D.SegmentSource in
    let all = c.loop-place.invariant.taken s within message in (
      all.0,
      subst (λ (gs : List Segment). ReadsRows D.tells (shown_image (now (D.story c.args.device.now))) s gs all.0)
          (take_all c.loop-place.place c.args.segments.now (omega (arith, c.loop-place-test.false))) all.1,
      all.2,
    )
