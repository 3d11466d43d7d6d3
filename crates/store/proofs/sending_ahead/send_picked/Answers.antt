use Rattle.std.specs.Prelude.{slice_index_or}
use Rattle.std.proofs.Common.{◌++◌, ◌∷◌, ◌+◌, ◌<◌, [], List, length, ap, ◌∙◌, subst, arith}
use Rattle.std.proofs.KnownBytes.{Appends-nil}
use Rattle.std.proofs.lemmas.List.{get_or_default}
use Rattle.sector_dev.specs.Disk.{now, shown_image}
use Rattle.catalogue.specs.declared.entry.Segment.{Segment}
use Rattle.catalogue.specs.View.{catalogue_of}
use Rattle.commit.specs.Standing.{is_size}
use Rattle.store_runs.specs.Calls.{done, refused}
use Rattle.store_runs.specs.Reading.{IsCopy}
use Rattle.store_changes.specs.Ahead.{segment_at}
use Rattle.store_changes.specs.laws.Ahead.{still_readable, is_next, goes_ahead}
use Rattle.store_changes.specs.laws.ReadTables.{no_segment, reads_more, reads_none, image_then}
use Rattle.store.specs.declared.sending.Item.{Item}
use Rattle.store.specs.inner.Sending.{plain_item}
use Rattle.store.proofs.Sent.{sent_then, sent_more, written_more}
use Rattle.store.proofs.SentAhead.{no_item, picked_at, device_alike}
use Rattle.store.proofs.sending_ahead.send_picked.Goals as goal

pub loop-place-init : goal.loop-place-init
loop-place-init g c =
    let D = g.D.SegmentSource in
    record {
      reads = reads_none D.size D.story D.failed D.tells c.args.device.now;
      goes_on = g.met.D.SegmentSource.stays c.args.device.now;
      ahead = c.new-ahead.ensures D.tells (shown_image (now (D.story c.args.device.now)));
      streams = [];
      sent = tt;
      written = Appends-nil _;
    }

pub next_bytes-requires-clause-size : goal.next_bytes-requires-clause-size
next_bytes-requires-clause-size g c = ap is_size c.loop-place.invariant.reads.same ∙ c.requires.size

pub next_bytes-requires-clause-next : goal.next_bytes-requires-clause-next
next_bytes-requires-clause-next g c =
    let D = g.D.SegmentSource in
    let start = c.args.device.now in
    let device = c.loop-place.device in
    let segments = c.args.segments.now in
    is_next D.tells (shown_image (now (D.story device))) segments c.loop-place.place c.loop-place.ahead (D.can_read device) c.loop-place-test.true
    (still_readable (D.can_read start) (D.can_read device) segments (λ place. g.met.D.SegmentSource.still start device place c.loop-place.invariant.goes_on) c.requires.readable) c.requires.sound c.loop-place.invariant.ahead

-- ---- the segment at a place

pub write_read-requires-clause-named : goal.write_read-requires-clause-named
write_read-requires-clause-named g c =
    let items = c.args.items.now in
    let segments = c.args.segments.now in
    let i = c.loop-place.place in
    let lt = c.loop-place-test.true in
    let item : Item = slice_index_or items i no_item in
    let segment : Segment = slice_index_or segments i no_segment in
    picked_at (catalogue_of c.args.list.now) items segments i item segment lt
    (get_or_default items i no_item item (omega (arith, lt, c.requires.each)))
    (get_or_default segments i no_segment segment lt) c.requires.picked

pub returns-in-Err-write_read-clause-reads : goal.returns-in-Err-write_read-clause-reads
returns-in-Err-write_read-clause-reads g c =
    let D = g.D.SegmentSource in
    let start = c.args.device.now in
    let new = c.next_bytes.new.device in
    device_alike D.size D.story D.failed D.tells done (refused c.in-Err-write_read.refusal) start new c.in-Err-write_read.ensures.quiet
    (reads_more D.size D.story D.failed D.tells done start c.loop-place.device new c.loop-place.invariant.reads c.in-Ok.ensures.reads)

pub returns-in-Err-clause-reads : goal.returns-in-Err-clause-reads
returns-in-Err-clause-reads g c =
    let D = g.D.SegmentSource in
    let start = c.args.device.now in
    let new = c.next_bytes.new.device in
    device_alike D.size D.story D.failed D.tells (refused c.in-Err.refusal) (refused c.at_place.result) start new c.at_place.ensures.kind
    (reads_more D.size D.story D.failed D.tells (refused c.in-Err.refusal) start c.loop-place.device new c.loop-place.invariant.reads c.in-Err.ensures.reads)

pub loop-place-preserved : goal.loop-place-preserved
loop-place-preserved g c =
    let D = g.D.SegmentSource in
    let W = g.W.Write in
    let start = c.args.device.now in
    let mid = c.loop-place.device in
    let new = c.next_bytes.new.device in
    let items = c.args.items.now in
    let segments = c.args.segments.now in
    let i = c.loop-place.place in
    let among : c.loop-place.place < length items = omega (arith, c.loop-place-test.true, c.requires.each) in
    let item : Item = slice_index_or items i no_item in
    let was = c.loop-place.invariant in
    let bytes = c.in-Ok.bytes.items in
    let first = shown_image (now (D.story start)) in
    let image = shown_image (now (D.story mid)) in
    let copy = subst (λ (gs : List Segment). IsCopy D.tells image (segment_at gs i) bytes) was.ahead.same c.in-Ok.ensures.copy in
    record {
      reads = reads_more D.size D.story D.failed D.tells done start mid new was.reads c.in-Ok.ensures.reads;
      goes_on = g.met.D.SegmentSource.onward start mid new was.goes_on c.in-Ok.ensures.goes_on;
      ahead =
          goes_ahead D.tells (shown_image (now (D.story new))) segments (i + 1) c.next_bytes.new.ahead c.loop-place.ahead was.ahead.same
          c.in-Ok.ensures.ahead;
      streams = was.streams ++ bytes ∷ [];
      sent =
          sent_more D.tells first (catalogue_of c.args.list.now) items i item was.streams bytes among (get_or_default items i no_item item among) was.sent
          (sent_then D.tells first image (λ told. image_then (D.story start) (D.story mid) (was.reads.moments told)) (catalogue_of c.args.list.now)
          (plain_item item) bytes (c.in-Ok-write_read.ensures.sent D.tells image copy));
      written =
          written_more (W.contents c.args.writer.now) (W.contents c.loop-place.writer) (W.contents c.write_read.new.writer) was.streams bytes was.written
          c.in-Ok-write_read.ensures.written;
    }
