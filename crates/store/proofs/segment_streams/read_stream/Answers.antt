use Rattle.sector_dev.specs.Disk.{now, shown_image}
use Rattle.store_changes.specs.laws.Digests.{lacks_rows}
use Rattle.store_changes.specs.laws.ReadTables.{reads_ended}
use Rattle.store.proofs.segment_streams.read_stream.Goals as goal

pub returns-in-Ok-clause-reads : goal.returns-in-Ok-clause-reads
returns-in-Ok-clause-reads g c =
    let D = g.D.SectorDevice in
    reads_ended D.size D.story D.failed D.tells c.tested.result c.args.device.now c.read_untested.new.device c.tested.ensures.quiet c.in-Ok.ensures.reads

pub returns-in-Err-clause-told : goal.returns-in-Err-clause-told
returns-in-Err-clause-told g c = λ s message.
    let D = g.D.SectorDevice in
    lacks_rows D.tells (shown_image (now (D.story c.args.device.now))) s c.args.segment c.args.place c.in-Err.refusal c.in-Err.ensures.told
