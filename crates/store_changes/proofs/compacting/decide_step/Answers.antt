use Rattle.std.proofs.Common.{inr, map}
use Rattle.sector_dev.specs.Disk.{now, shown_image}
use Rattle.segments.specs.Usages.{IsUsedIn}
use Rattle.catalogue.specs.Entries.{plain_entry}
use Rattle.store_runs.specs.Calls.{done, refused}
use Rattle.store_changes.specs.Change.{change_of}
use Rattle.store_changes.specs.laws.ReadTables.{reads_more, image_then}
use Rattle.store_changes.proofs.StepFound.{move_then, moving_then}
use Rattle.store_changes.proofs.compacting.decide_step.Goals as goal

pub returns-in-Ok-Some-decide_move-clause-reads : goal.returns-in-Ok-Some-decide_move-clause-reads
returns-in-Ok-Some-decide_move-clause-reads g c =
    let D = g.D.SectorDevice in
    reads_more D.size D.story D.failed D.tells done c.args.device.now c.first_pair.new.device c.decide_move.new.device c.in-Ok-None.ensures.reads c.in-Ok-Some-decide_move.ensures.reads

pub returns-in-Ok-Some-decide_move-clause-found : goal.returns-in-Ok-Some-decide_move-clause-found
returns-in-Ok-Some-decide_move-clause-found g c =
    let D = g.D.SectorDevice in
    let before = D.story c.args.device.now in
    let mid = D.story c.first_pair.new.device in
    let free = c.args.free.now in (
      rw c.in-Ok-None.field-0-is at c.in-Ok-None.ensures.found,
      move_then D.tells (shown_image (now before)) (shown_image (now mid)) (λ told. image_then before mid (c.in-Ok-None.ensures.reads.moments told)) free.size (IsUsedIn free.entries) (map plain_entry c.args.entries.now)
          (change_of c.in-Ok-Some-decide_move.change) (rw c.in-Ok-Some-decide_move.field-0-is at c.in-Ok-Some-decide_move.ensures.found),
    )

pub returns-in-Ok-None-decide_move-clause-reads : goal.returns-in-Ok-None-decide_move-clause-reads
returns-in-Ok-None-decide_move-clause-reads g c =
    let D = g.D.SectorDevice in
    reads_more D.size D.story D.failed D.tells done c.args.device.now c.first_pair.new.device c.decide_move.new.device c.in-Ok-None.ensures.reads c.in-Ok-None-decide_move.ensures.reads

pub returns-in-Err-decide_move-clause-reads : goal.returns-in-Err-decide_move-clause-reads
returns-in-Err-decide_move-clause-reads g c =
    let D = g.D.SectorDevice in
    reads_more D.size D.story D.failed D.tells (refused c.in-Err-decide_move.refusal) c.args.device.now c.first_pair.new.device c.decide_move.new.device c.in-Ok-None.ensures.reads c.in-Err-decide_move.ensures.reads

pub returns-in-Err-decide_move-clause-unread : goal.returns-in-Err-decide_move-clause-unread
returns-in-Err-decide_move-clause-unread g c =
    let D = g.D.SectorDevice in
    let before = D.story c.args.device.now in
    let mid = D.story c.first_pair.new.device in
    inr (
      rw c.in-Ok-None.field-0-is at c.in-Ok-None.ensures.found,
      moving_then D.tells (shown_image (now before)) (shown_image (now mid)) (λ told. image_then before mid (c.in-Ok-None.ensures.reads.moments told)) (map plain_entry c.args.entries.now) c.in-Err-decide_move.refusal
          c.in-Err-decide_move.ensures.unread,
    )
