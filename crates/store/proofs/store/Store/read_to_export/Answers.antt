use Rattle.std.specs.Prelude.{Ok}
use Rattle.std.proofs.Common.{◌≡◌, refl}
use Rattle.catalogue.specs.laws.Kept.{catalogue_is}
use Rattle.ipc_canonical.specs.Canonical.{canonical}
use Rattle.ipc_message.specs.Header.{supported_codes}
use Rattle.ipc_stream.specs.Meaning.{meaning}
use Rattle.values.specs.TableView.{table_of}
use Rattle.tables.specs.declared.refusal.Refusal.TheVariants.{OutOfMemory}
use Rattle.store_runs.specs.Calls.{done, export_call, bytes_are, refused}
use Rattle.store_runs.specs.Steps.{Step}
use Rattle.store.specs.Fits.{listed_in}
use Rattle.store.proofs.ReadsStore.{found_table, stays_reading, refused_reading, export_step}
use Rattle.store.proofs.store.Store.read_to_export.Goals as goal

pub returns-in-Ok-clause-goes : goal.returns-in-Ok-clause-goes
unfolding Step
returns-in-Ok-clause-goes g c = λ told base m fits.
    let D = g.D.SectorDevice in
    let old = c.args.self.now in
    let name = c.args.name.now in
    let t = table_of c.in-Ok.table in
    let found = found_table D.size D.story D.failed base m D.tells told old c.read_named.new.self fits name t c.in-Ok.ensures.found in
    let means : meaning supported_codes (canonical t) ≡ Ok t = c.canonical_means_its_table.ensures t c.in-Ok.ensures.kept in
    stays_reading D.size D.story D.failed base m D.tells told old c.read_named.new.self fits (export_call name) (bytes_are (canonical t)) done refl refl tt tt (found.0, (t, found.1, means), (refl, refl)) c.in-Ok.ensures.reads

pub returns-in-Ok-clause-without_memory : goal.returns-in-Ok-clause-without_memory
returns-in-Ok-clause-without_memory g c = λ told base m fits.
    let D = g.D.SectorDevice in
    let old = c.args.self.now in
    let name = c.args.name.now in
    let found = found_table D.size D.story D.failed base m D.tells told old c.read_named.new.self fits name (table_of c.in-Ok.table) c.in-Ok.ensures.found in
    stays_reading D.size D.story D.failed base m D.tells told old c.read_named.new.self fits (export_call name) (refused OutOfMemory) done refl refl tt tt (export_step _ m name OutOfMemory m (found.0, (refl, refl))) c.in-Ok.ensures.reads

pub returns-in-Err-clause-refused : goal.returns-in-Err-clause-refused
returns-in-Err-clause-refused g c = λ told base m fits.
    let D = g.D.SectorDevice in
    let old = c.args.self.now in
    let name = c.args.name.now in
    refused_reading D.size D.story D.failed base m D.tells told old c.read_named.new.self fits c.table_laws.ensures (catalogue_is (listed_in old) old.opened.catalogue.list.kept) (export_call name) name (export_step _ m name) c.in-Err.refusal c.in-Err.ensures.told c.in-Err.ensures.reads
