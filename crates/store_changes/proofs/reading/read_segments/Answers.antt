use Rattle.std.specs.Prelude.{get_or}
use Rattle.std.proofs.Common.{◌+◌, [], List, refl, sym, ap, ◌∙◌, subst, arith, take_all}
use Rattle.sector_dev.specs.Disk.{now, shown_image}
use Rattle.arrow_schema.specs.Column.{PlainSchema}
use Rattle.arrow_schema.specs.Limits.{IsWithinLimits}
use Rattle.cells.specs.Cell.{Cell}
use Rattle.catalogue.specs.declared.entry.Segment.{Segment}
use Rattle.ipc_write.specs.Written.{schema_message}
use Rattle.commit.specs.Standing.{is_size}
use Rattle.store_runs.specs.Calls.{done, refused}
use Rattle.store_changes.specs.inner.ReadRows.{ReadsRows, ReadsNext}
use Rattle.store_changes.specs.Ahead.{segment_at}
use Rattle.store_changes.specs.ReadSegment.{UnreadsSegment}
use Rattle.store_changes.specs.laws.Ahead.{still_readable, is_next, goes_ahead}
use Rattle.store_changes.specs.inner.TableBuilder.{table_so_far}
use Rattle.store_changes.specs.laws.ReadTables.{no_segment, at_place, unreads_step, reads_more, reads_none, image_then}
use Rattle.store_changes.specs.laws.ReadRows.{no_rows, reads_none_of, reads_step}
use Rattle.store_changes.proofs.reading.read_segments.Goals as goal

pub loop-place-init : goal.loop-place-init
loop-place-init g c =
    let D = g.D.SegmentSource in
    let image = shown_image (now (D.story c.args.device.now)) in
    let schema = (table_so_far c.args.empty).schema in
    record {
      reads = reads_none D.size D.story D.failed D.tells c.args.device.now;
      goes_on = g.met.D.SegmentSource.stays c.args.device.now;
      ahead = c.new-ahead.ensures D.tells image;
      schema = refl;
      read = subst (λ (rows : List (List Cell)). ReadsRows D.tells image schema [] rows) (sym c.requires.none) (reads_none_of D.tells image schema (no_rows schema c.requires.limits));
    }

-- ---- what is asked of the segment at a place

pub append_segment-requires-clause-size : goal.append_segment-requires-clause-size
append_segment-requires-clause-size g c = ap is_size c.loop-place.invariant.reads.same ∙ c.requires.size

pub append_segment-requires-clause-next : goal.append_segment-requires-clause-next
append_segment-requires-clause-next g c =
    let D = g.D.SegmentSource in
    let start = c.args.device.now in
    let device = c.loop-place.device in
    let segments = c.args.segments.now in
    is_next D.tells (shown_image (now (D.story device))) segments c.loop-place.place c.loop-place.ahead (D.can_read device) c.loop-place-test.true
    (still_readable (D.can_read start) (D.can_read device) segments (λ place. g.met.D.SegmentSource.still start device place c.loop-place.invariant.goes_on) c.requires.readable) c.requires.sound c.loop-place.invariant.ahead

pub append_segment-requires-clause-limits : goal.append_segment-requires-clause-limits
append_segment-requires-clause-limits g c = subst IsWithinLimits (sym c.loop-place.invariant.schema) c.requires.limits

pub append_segment-requires-clause-message : goal.append_segment-requires-clause-message
append_segment-requires-clause-message g c = c.requires.message ∙ ap schema_message (sym c.loop-place.invariant.schema)

-- ---- one segment more

pub loop-place-preserved : goal.loop-place-preserved
loop-place-preserved g c =
    let D = g.D.SegmentSource in
    let segments = c.args.segments.now in
    let place = c.loop-place.place in
    let segment = get_or segments place no_segment in
    let inside = c.loop-place-test.true in
    let same = c.loop-place.invariant.ahead.same in
    let so_far = table_so_far c.loop-place.gathered in
    let all = table_so_far c.in-Ok.more in
    let schema = (table_so_far c.args.empty).schema in
    let before = D.story c.args.device.now in
    let mid = D.story c.loop-place.device in
    record {
      reads = reads_more D.size D.story D.failed D.tells done c.args.device.now c.loop-place.device c.append_segment.new.device c.loop-place.invariant.reads c.in-Ok.ensures.reads;
      goes_on = g.met.D.SegmentSource.onward c.args.device.now c.loop-place.device c.append_segment.new.device c.loop-place.invariant.goes_on c.in-Ok.ensures.goes_on;
      ahead = goes_ahead D.tells (shown_image (now (D.story c.append_segment.new.device))) segments (place + 1) c.append_segment.new.ahead c.loop-place.ahead same c.in-Ok.ensures.ahead;
      schema = c.in-Ok.ensures.schema ∙ c.loop-place.invariant.schema;
      read =
          reads_step D.tells (shown_image (now before)) (shown_image (now mid)) (λ told. image_then before mid (c.loop-place.invariant.reads.moments told)) schema segments place segment inside
          (at_place segments place inside segment refl) so_far.rows all.rows c.loop-place.invariant.read
          (subst (λ (s : PlainSchema). ReadsNext D.tells (shown_image (now mid)) s so_far.rows segment all.rows) c.loop-place.invariant.schema
          (subst (λ (gs : List Segment). ReadsNext D.tells (shown_image (now mid)) so_far.schema so_far.rows (segment_at gs place) all.rows) same c.in-Ok.ensures.read));
    }

pub returns-in-Err-clause-reads : goal.returns-in-Err-clause-reads
returns-in-Err-clause-reads g c =
    let D = g.D.SegmentSource in
    reads_more D.size D.story D.failed D.tells (refused c.in-Err.refusal) c.args.device.now c.loop-place.device c.append_segment.new.device c.loop-place.invariant.reads c.in-Err.ensures.reads

pub returns-in-Err-clause-unread : goal.returns-in-Err-clause-unread
returns-in-Err-clause-unread g c = λ name page.
    let D = g.D.SegmentSource in
    let segments = c.args.segments.now in
    let place = c.loop-place.place in
    let segment = get_or segments place no_segment in
    let inside = c.loop-place-test.true in
    let same = c.loop-place.invariant.ahead.same in
    let so_far = table_so_far c.loop-place.gathered in
    let before = D.story c.args.device.now in
    let mid = D.story c.loop-place.device in
    unreads_step D.tells (shown_image (now before)) (shown_image (now mid)) (record { name = name; schema = (table_so_far c.args.empty).schema; segments = segments; page = page }) so_far.schema so_far.rows segment place c.in-Err.refusal
    c.loop-place.invariant.schema (λ told. image_then before mid (c.loop-place.invariant.reads.moments told)) inside (at_place segments place inside segment refl) c.loop-place.gathered.kept.weight c.loop-place.invariant.read.held
    (subst (λ (gs : List Segment). UnreadsSegment D.tells (shown_image (now mid)) so_far.schema so_far.rows (segment_at gs place) place c.in-Err.refusal) same c.in-Err.ensures.unread)

pub returns-in-Err-clause-goes_on : goal.returns-in-Err-clause-goes_on
returns-in-Err-clause-goes_on g c =
    g.met.D.SegmentSource.onward c.args.device.now c.loop-place.device c.append_segment.new.device c.loop-place.invariant.goes_on c.in-Err.ensures.goes_on

-- ---- all were read

pub returns-clause-reads : goal.returns-clause-reads
returns-clause-reads g c = c.loop-place.invariant.reads

pub returns-clause-goes_on : goal.returns-clause-goes_on
returns-clause-goes_on g c = c.loop-place.invariant.goes_on

pub returns-clause-read : goal.returns-clause-read
returns-clause-read g c =
    let D = g.D.SegmentSource in
    subst (λ (gs : List Segment). ReadsRows D.tells (shown_image (now (D.story c.args.device.now))) (table_so_far c.args.empty).schema gs (table_so_far c.loop-place.gathered).rows)
    (take_all c.loop-place.place c.args.segments.now (omega (arith, c.loop-place-test.false))) c.loop-place.invariant.read
