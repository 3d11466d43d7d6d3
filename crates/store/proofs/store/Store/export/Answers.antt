use Rattle.std.specs.Prelude.{◌≢◌}
use Rattle.std.proofs.Common.{◌≡◌, refl}
use Rattle.sector_dev.specs.Disk.{now, shown_image}
use Rattle.catalogue.specs.Edits.{entry_of}
use Rattle.ipc_canonical.specs.Canonical.{canonical}
use Rattle.ipc_encode.specs.declared.writing.WriteError.{WriteError}
use Rattle.ipc_encode.specs.declared.writing.WriteError.TheVariants as errors
use Rattle.values.specs.TableView.{table_of}
use Rattle.tables.specs.declared.refusal.Refusal.TheVariants.{Write, OutOfMemory}
use Rattle.store_runs.specs.Calls.{refused}
use Rattle.store.specs.Fits.{listed_in}
use Rattle.store.proofs.AtNames.{read_without_memory, never_write}
use Rattle.store.proofs.Replied.{read_done}
use Rattle.store.proofs.store.Store.export.Goals as goal

memory_unwritten : OutOfMemory ≢ Write
memory_unwritten is = cc is

not_io : (e : WriteError) → e ≡ errors.OutOfMemory → e ≢ errors.Io
not_io e is other = cc (is, other)

pub returns-in-Ok-encode_to-clause-goes : goal.returns-in-Ok-encode_to-clause-goes
returns-in-Ok-encode_to-clause-goes g c = λ told base m fits. (canonical (table_of c.in-Ok.table), c.in-Ok-encode_to.ensures.written, c.in-Ok.ensures.goes told base m fits)

pub returns-in-Ok-encode_to-clause-written : goal.returns-in-Ok-encode_to-clause-written
returns-in-Ok-encode_to-clause-written g c = (table_of c.in-Ok.table, c.in-Ok.ensures.found, c.in-Ok-encode_to.ensures.written)

pub returns-in-Err-Io-clause-refused : goal.returns-in-Err-Io-clause-refused
returns-in-Err-Io-clause-refused g c = λ other. absurd (other refl)

pub returns-in-Err-Io-clause-unwritten : goal.returns-in-Err-Io-clause-unwritten
returns-in-Err-Io-clause-unwritten g c = λ is told base m fits. (canonical (table_of c.in-Ok.table), c.in-Ok.ensures.goes told base m fits)

pub returns-in-Err-Io-clause-told : goal.returns-in-Err-Io-clause-told
returns-in-Err-Io-clause-told g c = λ other. absurd (other refl)

pub returns-in-Err-Io-clause-failed : goal.returns-in-Err-Io-clause-failed
returns-in-Err-Io-clause-failed g c = λ is. (table_of c.in-Ok.table, c.in-Ok.ensures.found)

pub returns-in-Err-Io-clause-silent : goal.returns-in-Err-Io-clause-silent
returns-in-Err-Io-clause-silent g c = λ other. absurd (other refl)

pub returns-in-Err-Io-clause-reads : goal.returns-in-Err-Io-clause-reads
returns-in-Err-Io-clause-reads g c = let D = g.D.SectorDevice in read_done D.size D.story D.failed D.tells (refused Write) c.args.self.now c.read_to_export.new.self refl refl c.in-Ok.ensures.reads

pub returns-in-Ok-clause-refused : goal.returns-in-Ok-clause-refused
returns-in-Ok-clause-refused g c = λ other told base m fits. c.in-Ok.ensures.without_memory told base m fits

pub returns-in-Ok-clause-unwritten : goal.returns-in-Ok-clause-unwritten
returns-in-Ok-clause-unwritten g c = λ is. absurd (memory_unwritten is)

pub returns-in-Ok-clause-told : goal.returns-in-Ok-clause-told
returns-in-Ok-clause-told g c = λ other. let D = g.D.SectorDevice in read_without_memory c.args.self.now.halted D.tells (shown_image (now (D.story c.args.self.now.device))) (entry_of (listed_in c.args.self.now) c.args.name.now) (table_of c.in-Ok.table) c.in-Ok.ensures.found

pub returns-in-Ok-clause-failed : goal.returns-in-Ok-clause-failed
returns-in-Ok-clause-failed g c = λ is. absurd (memory_unwritten is)

pub returns-in-Ok-clause-silent : goal.returns-in-Ok-clause-silent
returns-in-Ok-clause-silent g c = λ other. c.in-Err-OutOfMemory.ensures.silent (not_io c.in-Err-OutOfMemory.field-0 c.in-Err-OutOfMemory.field-0-is)

pub returns-in-Ok-clause-reads : goal.returns-in-Ok-clause-reads
returns-in-Ok-clause-reads g c = let D = g.D.SectorDevice in read_done D.size D.story D.failed D.tells (refused OutOfMemory) c.args.self.now c.read_to_export.new.self refl refl c.in-Ok.ensures.reads

pub returns-clause-refused : goal.returns-clause-refused
returns-clause-refused g c = λ other told base m fits. c.in-Err.ensures.refused told base m fits

pub returns-clause-unwritten : goal.returns-clause-unwritten
returns-clause-unwritten g c = λ is. let D = g.D.SectorDevice in absurd (never_write c.args.self.now.halted D.tells (shown_image (now (D.story c.args.self.now.device))) (entry_of (listed_in c.args.self.now) c.args.name.now) c.in-Err.refusal c.in-Err.ensures.told is)

pub returns-clause-told : goal.returns-clause-told
returns-clause-told g c = λ other. c.in-Err.ensures.told

pub returns-clause-failed : goal.returns-clause-failed
returns-clause-failed g c = λ is. let D = g.D.SectorDevice in absurd (never_write c.args.self.now.halted D.tells (shown_image (now (D.story c.args.self.now.device))) (entry_of (listed_in c.args.self.now) c.args.name.now) c.in-Err.refusal c.in-Err.ensures.told is)

pub returns-clause-silent : goal.returns-clause-silent
returns-clause-silent g c = λ other. refl

pub returns-in-Ok-encode_to-clause-reads : goal.returns-in-Ok-encode_to-clause-reads
returns-in-Ok-encode_to-clause-reads g c = c.in-Ok.ensures.reads

pub returns-clause-reads : goal.returns-clause-reads
returns-clause-reads g c = c.in-Err.ensures.reads
