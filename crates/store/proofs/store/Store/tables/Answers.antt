use Rattle.std.proofs.Common.{◌∙◌, Err, refl, ap, sym}
use Rattle.std.proofs.lemmas.Result.{err_from_is_err_and}
use Rattle.sector_dev.specs.Disk.{now, synced_image}
use Rattle.catalogue.specs.Edits.{tables_of}
use Rattle.catalogue.specs.View.{catalogue_of}
use Rattle.catalogue.specs.declared.catalogue.Catalogue.{Catalogue}
use Rattle.catalogue.specs.laws.Kept.{catalogue_is}
use Rattle.tables.specs.declared.refusal.Refusal.TheVariants.{Halted, OutOfMemory}
use Rattle.tables.specs.Verdict.{after}
use Rattle.store_runs.specs.Calls.{tables_call, counts, refused}
use Rattle.store_runs.specs.Steps.{Step}
use Rattle.store.specs.Fits.{listed_in}
use Rattle.store_changes.specs.laws.Listed.{held_counts}
use Rattle.store.proofs.Asked.{not_running, is_running, told_of, still}
use Rattle.store.proofs.store.Store.tables.Goals as goal

pub returns-in_err-list-clause-refused : goal.returns-in_err-list-clause-refused
unfolding Step
returns-in_err-list-clause-refused g c =
    let D = g.D.SectorDevice in
    let store = c.args.self.now in
    let p = err_from_is_err_and c.from_residual.result c.from_residual.ensures.1 in
    told_of c.from_residual.result Halted _ (p.1 ∙ ap Err p.2 ∙ ap Err c.in_err-list.ensures.0) (λ told base m fits.
    still D.size D.story D.failed base m tables_call (refused Halted) store (not_running m.phase store.halted fits.phase c.in_err-list.ensures.1, (refl, refl)) refl fits tt tt)

pub returns-clause-goes : goal.returns-clause-goes
unfolding Step
returns-clause-goes g c = λ told base m fits.
    let D = g.D.SectorDevice in
    let store = c.args.self.now in
    let on = is_running m.phase store.halted fits.phase c.in_ok-list.ensures.1 in
    let listed = listed_in store in
    let held = held_counts (synced_image (now (D.story store.device))) listed (after base m.settled) (catalogue_is listed store.opened.catalogue.list.kept) (fits.sound on).tables in
    still D.size D.story D.failed base m tables_call (counts _) store
    (on, c.in_ok-tables.ensures ∙ ap (λ (list : Catalogue). tables_of (catalogue_of list)) c.in_ok-list.ensures.0 ∙ sym held, (refl, refl)) refl fits tt tt

pub returns-in_err-tables-clause-refused : goal.returns-in_err-tables-clause-refused
unfolding Step
returns-in_err-tables-clause-refused g c =
    let D = g.D.SectorDevice in
    let store = c.args.self.now in
    let p = err_from_is_err_and c.from_residual-in_err-tables.result c.from_residual-in_err-tables.ensures.1 in
    told_of c.from_residual-in_err-tables.result OutOfMemory _ (p.1 ∙ ap Err p.2) (λ told base m fits.
    still D.size D.story D.failed base m tables_call (refused OutOfMemory) store (is_running m.phase store.halted fits.phase c.in_ok-list.ensures.1, (refl, refl)) refl fits tt tt)
