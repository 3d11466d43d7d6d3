use Rattle.std.proofs.Common.{ℕ, List, refl, sym, subst}
use Rattle.sector_dev.specs.Disk.{now, shown_image}
use Rattle.catalogue.specs.Edits.{entry_of}
use Rattle.values.specs.TableView.{table_of}
use Rattle.tables.specs.declared.refusal.Refusal.TheVariants.{OutOfMemory}
use Rattle.store.specs.Applying.{GoesOn}
use Rattle.store_runs.specs.Calls.{export_call, bytes_are, refused}
use Rattle.store.specs.Fits.{listed_in}
use Rattle.store.proofs.AtNames.{read_without_memory}
use Rattle.store.proofs.Replied.{read_done}
use Rattle.store.proofs.store.Store.export_bytes.Goals as goal

pub returns-in-Ok-encode-clause-goes : goal.returns-in-Ok-encode-clause-goes
returns-in-Ok-encode-clause-goes g c = λ told base m fits.
    let D = g.D.SectorDevice in
    subst (λ (bytes : List ℕ). GoesOn {g = D} D.size D.story D.failed base m (export_call c.args.name.now) (bytes_are bytes) c.args.self.now c.read_to_export.new.self) (sym c.in-Ok-encode.ensures) (c.in-Ok.ensures.goes told base m fits)

pub returns-in-Ok-encode-clause-found : goal.returns-in-Ok-encode-clause-found
returns-in-Ok-encode-clause-found g c = (table_of c.in-Ok.table, c.in-Ok.ensures.found, c.in-Ok-encode.ensures)

pub returns-in-Ok-encode-clause-reads : goal.returns-in-Ok-encode-clause-reads
returns-in-Ok-encode-clause-reads g c = c.in-Ok.ensures.reads

pub returns-in-Ok-clause-refused : goal.returns-in-Ok-clause-refused
returns-in-Ok-clause-refused g c = λ told base m fits. c.in-Ok.ensures.without_memory told base m fits

pub returns-in-Ok-clause-told : goal.returns-in-Ok-clause-told
returns-in-Ok-clause-told g c =
    let D = g.D.SectorDevice in
    let old = c.args.self.now in
    read_without_memory old.halted D.tells (shown_image (now (D.story old.device))) (entry_of (listed_in old) c.args.name.now) (table_of c.in-Ok.table) c.in-Ok.ensures.found

pub returns-in-Ok-clause-reads : goal.returns-in-Ok-clause-reads
returns-in-Ok-clause-reads g c = let D = g.D.SectorDevice in read_done D.size D.story D.failed D.tells (refused OutOfMemory) c.args.self.now c.read_to_export.new.self refl refl c.in-Ok.ensures.reads

pub returns-clause-refused : goal.returns-clause-refused
returns-clause-refused g c = c.in-Err.ensures.refused

pub returns-clause-told : goal.returns-clause-told
returns-clause-told g c = c.in-Err.ensures.told

pub returns-clause-reads : goal.returns-clause-reads
returns-clause-reads g c = c.in-Err.ensures.reads
