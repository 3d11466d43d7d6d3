use Rattle.std.proofs.Common.{◌≤◌, ◌+◌, List, length, ap, arith}
use Rattle.sector_dev.specs.Disk.{now, shown_image}
use Rattle.values.specs.TableView.{table_of}
use Rattle.catalogue.specs.declared.entry.Segment.{Segment}
use Rattle.catalogue.specs.Entries.{plain_entry}
use Rattle.tables.specs.declared.refusal.Refusal.TheVariants.{OutOfMemory}
use Rattle.store_runs.specs.Calls.{done, refused}
use Rattle.store_runs.specs.Compacting.{pair_of}
use Rattle.store_changes.specs.laws.ReadTables.{reads_more, image_then}
use Rattle.store_changes.proofs.StepFound.{read_then, stays_then, pair_then, stays_more}
use Rattle.store_changes.proofs.pairs.first_pair_of.Goals as goal

pub returns-in-Ok-clause-reads : goal.returns-in-Ok-clause-reads
returns-in-Ok-clause-reads g c =
    let D = g.D.SectorDevice in
    reads_more D.size D.story D.failed D.tells done c.args.device.now c.loop-place.device c.joined_at.new.device c.loop-place.invariant.reads c.in-Ok-Some.ensures.reads

pub returns-in-Ok-clause-found : goal.returns-in-Ok-clause-found
returns-in-Ok-clause-found g c =
    let D = g.D.SectorDevice in
    let before = D.story c.args.device.now in
    let mid = D.story c.loop-place.device in
    let e = plain_entry c.args.entry.now in
    let place = c.loop-place.place in
    let pair = rw c.in-Ok-Some.field-0-is at c.in-Ok-Some.ensures.pair in
    record {
      place = place;
      within = omega (arith, ap (λ (gs : List Segment). length gs) c.segments.ensures);
      before = c.loop-place.invariant.stay;
      table = table_of c.in-Ok-Some.table;
      read = read_then D.tells (shown_image (now before)) (shown_image (now mid)) (λ told. image_then before mid (c.loop-place.invariant.reads.moments told)) (pair_of e place) (table_of c.in-Ok-Some.table) pair.1;
      one = pair.2;
      is = c.in-Ok.ensures;
    }

pub returns-in-Err-merge-clause-reads : goal.returns-in-Err-merge-clause-reads
returns-in-Err-merge-clause-reads g c =
    let D = g.D.SectorDevice in
    let reads = c.in-Ok-Some.ensures.reads in
    reads_more D.size D.story D.failed D.tells (refused OutOfMemory) c.args.device.now c.loop-place.device c.joined_at.new.device c.loop-place.invariant.reads (record { same = reads.same; moments = reads.moments; count = reads.count })

pub returns-in-Err-merge-clause-unread : goal.returns-in-Err-merge-clause-unread
returns-in-Err-merge-clause-unread g c =
    let e = plain_entry c.args.entry.now in
    let place = c.loop-place.place in
    let within : place + 2 ≤ length e.segments = omega (arith, ap (λ (gs : List Segment). length gs) c.segments.ensures) in
    let pair = rw c.in-Ok-Some.field-0-is at c.in-Ok-Some.ensures.pair in
    (place, within, c.loop-place.invariant.stay, (pair.0, tt))

pub returns-in-Err-clause-reads : goal.returns-in-Err-clause-reads
returns-in-Err-clause-reads g c =
    let D = g.D.SectorDevice in
    reads_more D.size D.story D.failed D.tells (refused c.in-Err.refusal) c.args.device.now c.loop-place.device c.joined_at.new.device c.loop-place.invariant.reads c.in-Err.ensures.reads

pub returns-in-Err-clause-unread : goal.returns-in-Err-clause-unread
returns-in-Err-clause-unread g c =
    let D = g.D.SectorDevice in
    let before = D.story c.args.device.now in
    let mid = D.story c.loop-place.device in
    let e = plain_entry c.args.entry.now in
    let place = c.loop-place.place in
    let within : place + 2 ≤ length e.segments = omega (arith, ap (λ (gs : List Segment). length gs) c.segments.ensures) in
    let unread = c.in-Err.ensures.unread in (
      place,
      within,
      c.loop-place.invariant.stay,
      (unread.0, pair_then D.tells (shown_image (now before)) (shown_image (now mid)) (λ told. image_then before mid (c.loop-place.invariant.reads.moments told)) e place c.in-Err.refusal unread.1),
    )

pub loop-place-preserved : goal.loop-place-preserved
loop-place-preserved g c =
    let D = g.D.SectorDevice in
    let before = D.story c.args.device.now in
    let mid = D.story c.loop-place.device in
    let e = plain_entry c.args.entry.now in
    let place = c.loop-place.place in
    let pair = rw c.in-Ok-None.field-0-is at c.in-Ok-None.ensures.pair in
    record {
      reads = reads_more D.size D.story D.failed D.tells done c.args.device.now c.loop-place.device c.joined_at.new.device c.loop-place.invariant.reads c.in-Ok-None.ensures.reads;
      stay = stays_more D.tells (shown_image (now before)) e place c.loop-place.invariant.stay
          (stays_then D.tells (shown_image (now before)) (shown_image (now mid)) (λ told. image_then before mid (c.loop-place.invariant.reads.moments told)) e place pair);
    }
