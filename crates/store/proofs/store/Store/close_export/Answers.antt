use Rattle.std.proofs.Common.{refl, sym, subst}
use Rattle.store_runs.specs.Calls.{done}
use Rattle.store_runs.specs.Reading.{OnlyReadsDevice}
use Rattle.store_changes.specs.laws.ReadTables.{reads_quiet}
use Rattle.store.proofs.ExportSteps.{closes_goes, close_refused}
use Rattle.store.proofs.store.Store.close_export.Goals as goal

pub returns-in-Ok-clause-goes : goal.returns-in-Ok-clause-goes
returns-in-Ok-clause-goes g c = λ told base m fits.
    let D = g.D.SectorDevice in
    let old = c.args.self.now in
    let reads : OnlyReadsDevice D.size D.story D.failed D.tells done old.device c.close_by_id.new.self.device =
    subst (λ d. OnlyReadsDevice D.size D.story D.failed D.tells done old.device d) (sym c.close_by_id.ensures.device) (reads_quiet D.size D.story D.failed D.tells done old.device refl) in
    closes_goes D.size D.story D.failed base m D.tells told old c.close_by_id.new.self fits c.args.id c.in-Ok.ensures.closed reads

pub returns-in-Err-clause-refused : goal.returns-in-Err-clause-refused
returns-in-Err-clause-refused g c = λ told base m fits.
    let D = g.D.SectorDevice in
    close_refused D.size D.story D.failed base m D.tells told c.args.self.now c.close_by_id.new.self fits c.args.id c.in-Err.refusal c.in-Err.ensures.told c.in-Err.ensures.kept
