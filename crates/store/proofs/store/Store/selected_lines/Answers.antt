use Rattle.std.proofs.Common.{refl}
use Rattle.catalogue.specs.laws.Kept.{catalogue_is}
use Rattle.store_runs.specs.Calls.{done, read_call, table_is}
use Rattle.store_runs.specs.Steps.{Step}
use Rattle.store.specs.Fits.{listed_in}
use Rattle.store.proofs.ReadsStore.{found_table, stays_reading, refused_reading, read_step}
use Rattle.store.proofs.store.Store.selected_lines.Goals as goal

pub returns-in-Ok-clause-goes : goal.returns-in-Ok-clause-goes
unfolding Step
returns-in-Ok-clause-goes g c = λ told base m fits.
    let D = g.D.SectorDevice in
    let old = c.args.self.now in
    let name = c.args.name.now in
    let read = c.in-Ok.ensures.answers in
    let found = found_table D.size D.story D.failed base m D.tells told old c.lines_named.new.self fits name read.0 read.1 in (
      read.0,
      read.2,
      stays_reading D.size D.story D.failed base m D.tells told old c.lines_named.new.self fits (read_call name) (table_is read.0) done refl refl tt tt
          (found.0, found.1, (refl, refl)) c.in-Ok.ensures.reads,
    )

pub returns-in-Err-clause-refused : goal.returns-in-Err-clause-refused
returns-in-Err-clause-refused g c = λ told base m fits.
    let D = g.D.SectorDevice in
    let old = c.args.self.now in
    let name = c.args.name.now in
    refused_reading D.size D.story D.failed base m D.tells told old c.lines_named.new.self fits c.table_laws.ensures (catalogue_is (listed_in old) old.opened.catalogue.list.kept) (read_call name) name (read_step _ m name) c.in-Err.refusal c.in-Err.ensures.told c.in-Err.ensures.reads
