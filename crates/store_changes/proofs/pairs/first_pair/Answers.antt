use Rattle.std.proofs.Common.{length, map}
use Rattle.sector_dev.specs.Disk.{now, shown_image}
use Rattle.catalogue.specs.Entries.{plain_entry}
use Rattle.store_runs.specs.Calls.{done, refused}
use Rattle.store_changes.specs.Change.{change_of}
use Rattle.store_changes.specs.laws.ReadTables.{reads_more, image_then}
use Rattle.store_changes.proofs.StepFound.{item_at, merge_then, first_then, in_then, unread_in, all_more, item_placed, item_sound}
use Rattle.store_changes.proofs.pairs.first_pair.Goals as goal

pub first_pair_of-requires-clause-placed : goal.first_pair_of-requires-clause-placed
first_pair_of-requires-clause-placed g c =
    let D = g.D.SectorDevice in
    item_placed c.args.entries.now c.loop-entry.entry-index c.entry-item.result c.loop-entry-test.true c.entry-item.is c.requires.stands (D.size c.args.device.now) (D.size c.loop-entry.device) c.loop-entry.invariant.reads.same c.requires.placed

pub first_pair_of-requires-clause-sound : goal.first_pair_of-requires-clause-sound
first_pair_of-requires-clause-sound g c = item_sound c.args.entries.now c.loop-entry.entry-index c.entry-item.result c.loop-entry-test.true c.entry-item.is c.requires.stands

pub returns-in-Ok-Some-clause-reads : goal.returns-in-Ok-Some-clause-reads
returns-in-Ok-Some-clause-reads g c =
    let D = g.D.SectorDevice in
    reads_more D.size D.story D.failed D.tells done c.args.device.now c.loop-entry.device c.first_pair_of.new.device c.loop-entry.invariant.reads c.in-Ok-Some.ensures.reads

pub returns-in-Ok-Some-clause-found : goal.returns-in-Ok-Some-clause-found
returns-in-Ok-Some-clause-found g c =
    let D = g.D.SectorDevice in
    let before = D.story c.args.device.now in
    let mid = D.story c.loop-entry.device in
    let item = c.entry-item.result in
    record {
      number = c.loop-entry.entry-index;
      entry = plain_entry item;
      at = item_at c.args.entries.now c.loop-entry.entry-index item c.loop-entry-test.true c.entry-item.is;
      others = c.loop-entry.invariant.stay;
      merge = merge_then D.tells (shown_image (now before)) (shown_image (now mid)) (λ told. image_then before mid (c.loop-entry.invariant.reads.moments told)) (plain_entry item) (change_of c.in-Ok-Some.change)
          (rw c.in-Ok-Some.field-0-is at c.in-Ok-Some.ensures.found);
    }

pub returns-in-Err-clause-reads : goal.returns-in-Err-clause-reads
returns-in-Err-clause-reads g c =
    let D = g.D.SectorDevice in
    reads_more D.size D.story D.failed D.tells (refused c.in-Err.refusal) c.args.device.now c.loop-entry.device c.first_pair_of.new.device c.loop-entry.invariant.reads c.in-Err.ensures.reads

pub returns-in-Err-clause-unread : goal.returns-in-Err-clause-unread
returns-in-Err-clause-unread g c =
    let D = g.D.SectorDevice in
    let before = D.story c.args.device.now in
    let mid = D.story c.loop-entry.device in
    let item = c.entry-item.result in
    unread_in D.tells (shown_image (now before)) (map plain_entry c.args.entries.now) c.loop-entry.entry-index (plain_entry item) c.in-Err.refusal
    (item_at c.args.entries.now c.loop-entry.entry-index item c.loop-entry-test.true c.entry-item.is) c.loop-entry.invariant.stay
    (in_then D.tells (shown_image (now before)) (shown_image (now mid)) (λ told. image_then before mid (c.loop-entry.invariant.reads.moments told)) (plain_entry item) c.in-Err.refusal c.in-Err.ensures.unread)

pub loop-entry-preserved : goal.loop-entry-preserved
loop-entry-preserved g c =
    let D = g.D.SectorDevice in
    let before = D.story c.args.device.now in
    let mid = D.story c.loop-entry.device in
    let item = c.entry-item.result in
    let e = plain_entry item in
    record {
      reads = reads_more D.size D.story D.failed D.tells done c.args.device.now c.loop-entry.device c.first_pair_of.new.device c.loop-entry.invariant.reads c.in-Ok-None.ensures.reads;
      stay = all_more D.tells (shown_image (now before)) (map plain_entry c.args.entries.now) c.loop-entry.entry-index e
          (item_at c.args.entries.now c.loop-entry.entry-index item c.loop-entry-test.true c.entry-item.is) c.loop-entry.invariant.stay
          (first_then D.tells (shown_image (now before)) (shown_image (now mid)) (λ told. image_then before mid (c.loop-entry.invariant.reads.moments told)) e (length e.segments)
          (rw c.in-Ok-None.field-0-is at c.in-Ok-None.ensures.found));
    }
