use Rattle.catalogue.specs.laws.Kept.{catalogue_is}
use Rattle.store_runs.specs.Calls.{done}
use Rattle.store.specs.Fits.{listed_in}
use Rattle.store_changes.specs.laws.ReadTables.{reads_quiet}
use Rattle.store.proofs.ExportSteps.{opens_goes, open_refused}
use Rattle.store_runs.specs.Reading.{OnlyReadsDevice}
use Rattle.std.proofs.Common.{refl, sym, subst}
use Rattle.store.proofs.store.Store.open_export.Goals as goal

pub returns-in-Ok-clause-goes : goal.returns-in-Ok-clause-goes
returns-in-Ok-clause-goes g c = λ told base m fits.
    let D = g.D.SectorDevice in
    let old = c.args.self.now in
    let reads : OnlyReadsDevice D.size D.story D.failed D.tells done old.device c.open_named.new.self.device =
    subst (λ d. OnlyReadsDevice D.size D.story D.failed D.tells done old.device d) (sym c.open_named.ensures.device) (reads_quiet D.size D.story D.failed D.tells done old.device refl) in
    opens_goes D.size D.story D.failed base m D.tells told old c.open_named.new.self fits c.args.name.now c.in-Ok.id c.table_laws.ensures c.joined_parts_mean_their_table.ensures
    (catalogue_is (listed_in old) old.opened.catalogue.list.kept) old.book.sound c.in-Ok.ensures.opened reads

pub returns-in-Err-clause-refused : goal.returns-in-Err-clause-refused
returns-in-Err-clause-refused g c = λ told base m fits.
    let D = g.D.SectorDevice in
    open_refused D.size D.story D.failed base m D.tells told c.args.self.now c.open_named.new.self fits c.args.name.now c.in-Err.refusal c.in-Err.ensures.told c.in-Err.ensures.kept
