use Rattle.sector_dev.specs.Disk.{now, shown_image}
use Rattle.catalogue.specs.Edits.{entry_of}
use Rattle.store.specs.Fits.{listed_in}
use Rattle.store.proofs.Heavy.{heavy_told, unread_told, unread_on}
use Rattle.store.proofs.store.Store.refusal_of_heavy_rows.Goals as goal

pub returns-in-Ok-clause-reads : goal.returns-in-Ok-clause-reads
returns-in-Ok-clause-reads g c =
    let reads = c.in-Ok.ensures.reads in
    record {
      device = record { same = reads.device.same; moments = reads.device.moments; count = reads.device.count };
      kept = reads.kept;
      book = reads.book;
      halts = reads.halts;
    }

pub returns-in-Ok-clause-answers : goal.returns-in-Ok-clause-answers
returns-in-Ok-clause-answers g c = λ rows heavy.
    let D = g.D.SectorDevice in
    let store = c.args.self.now in
    let found = c.in-Ok.ensures.found in
    heavy_told D.tells (shown_image (now (D.story store.device))) (listed_in store) c.args.name.now rows store.halted found.0 found.1 heavy

pub returns-in-Err-clause-reads : goal.returns-in-Err-clause-reads
returns-in-Err-clause-reads g c = c.in-Err.ensures.reads

pub returns-in-Err-clause-answers : goal.returns-in-Err-clause-answers
returns-in-Err-clause-answers g c = λ rows heavy.
    let D = g.D.SectorDevice in
    let store = c.args.self.now in
    unread_told D.tells (shown_image (now (D.story store.device))) (listed_in store) c.args.name.now rows store.halted c.in-Err.refusal c.requires.on c.in-Err.ensures.told heavy

pub returns-in-Err-clause-not_halted : goal.returns-in-Err-clause-not_halted
returns-in-Err-clause-not_halted g c =
    let D = g.D.SectorDevice in
    let store = c.args.self.now in
    unread_on store.halted D.tells (shown_image (now (D.story store.device))) (entry_of (listed_in store) c.args.name.now) c.in-Err.refusal c.requires.on c.in-Err.ensures.told
