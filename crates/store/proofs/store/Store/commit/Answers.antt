use Rattle.std.specs.Prelude.{ℕ, OnOk}
use Rattle.std.proofs.Common.{◌≡◌, Bool, true, Some, Result, Ok, Err, inl, refl, sym, ap, ◌∙◌, subst}
use Rattle.sector_dev.specs.Disk.{now}
use Rattle.catalogue.specs.Entries.{PlainCatalogue}
use Rattle.catalogue.specs.View.{catalogue_of}
use Rattle.catalogue.specs.laws.Kept.{catalogue_is}
use Rattle.commit.specs.declared.recovery.Opened.{Opened}
use Rattle.pages.specs.declared.stored.StoredCatalogue.{StoredCatalogue}
use Rattle.tables.specs.declared.refusal.Refusal.{Refusal}
use Rattle.tables.specs.declared.refusal.Refusal.TheVariants as refusals
use Rattle.tables.specs.Commands.{all_of, commands_of}
use Rattle.tables.specs.Verdict.{verdict}
use Rattle.store_runs.specs.Calls.{done, refused}
use Rattle.store_runs.specs.Changes.{PlainChange, CanChange}
use Rattle.store_runs.specs.Deciding.{IsDecided}
use Rattle.store_runs.specs.Held.{tables_held}
use Rattle.store_runs.specs.Machine.{tables_now}
use Rattle.store_runs.specs.Reading.{ended}
use Rattle.store_changes.specs.Change.{change_of}
use Rattle.store.specs.Fits.{setting_of, listed_in}
use Rattle.store.proofs.AllApplied.{reads_alike, applies_first, applies_then}
use Rattle.store.proofs.Applied.{refuses_memory, goes_after, tells_command, decided_after}
use Rattle.store.proofs.Asked.{is_running}
use Rattle.store.proofs.Begun.{shown_first, old_on, decided_all}
use Rattle.store.proofs.Goings.{carried_goes}
use Rattle.store.proofs.ReadsStore.{shown, fits_reading}
use Rattle.store.proofs.store.Store.commit.Goals as goal

-- where it was done
told_done : (A B : Type 0) (tells : Bool) (result : Result (Unit {0}) Refusal) → tells ≡ true → A → OnOk result (tells ≡ true → A → B) → OnOk result B
told_done A B tells (Ok unit) told on does = does told on
told_done A B tells (Err e) told on does = tt

pub finish-requires : goal.finish-requires
finish-requires g c = c.requires.drafts.draft

-- ---- the change of all

pub carry_out-all-requires-clause-sound : goal.carry_out-all-requires-clause-sound
carry_out-all-requires-clause-sound g c =
    let begun = c.requires.drafts in
    subst (λ (opened : Opened StoredCatalogue). CanChange (catalogue_of opened.catalogue.list) (change_of c.in-Ok.change)) (sym begun.reads.kept)
    (subst (λ (d : PlainCatalogue). CanChange d (change_of c.in-Ok.change)) begun.old c.in-Ok.ensures.can)

pub carry_out-all-requires-clause-on : goal.carry_out-all-requires-clause-on
carry_out-all-requires-clause-on g c =
    let D = g.D.SectorDevice in let begun = c.requires in old_on D.size D.story D.failed D.tells begun.first c.args.self.now c.args.transaction begun.commands begun.drafts

pub returns-in-Ok-clause-goes : goal.returns-in-Ok-clause-goes
returns-in-Ok-clause-goes g c = λ first commands begun told base m fits.
    let D = g.D.SectorDevice in
    let mid = c.args.self.now in
    let t = c.args.transaction in
    let cmd = all_of (commands_of commands) in
    let runs = is_running m.phase first.halted fits.phase begun.on in
    let sound = fits.sound runs in
    let u = tables_now (setting_of (D.size first.device) base) m in
    let image = shown_first D.size D.story D.failed D.tells first mid t commands begun in
    let held : tables_held image (listed_in first) ≡ Some u = ap (λ i. tables_held i (listed_in first)) (shown D.size D.story D.failed base m D.tells told first mid fits runs) ∙ sound.tables in
    let change : PlainChange = change_of c.in-Ok.change in
    let is : IsDecided true image (listed_in first) cmd (Ok change) =
    subst (λ (b : Bool). IsDecided b image (listed_in first) cmd (Ok change)) told (decided_all D.size D.story D.failed D.tells first mid t commands begun change (c.in-Ok.ensures.whole image)) in
    let says = c.decisions_are_verdicts.ensures.each image (listed_in first) u cmd (Ok change) (catalogue_is (listed_in first) first.opened.catalogue.list.kept) held begun.brings is in
    let there = fits_reading D.size D.story D.failed base m D.tells told first mid fits done refl begun.reads in
    let ends = c.carry_out-all.ensures in
    let all = c.carry_out-all.result in
    let new = c.carry_out-all.new.self in
    goes_after D.size D.story D.failed base m cmd D.tells told first mid new done (ended all) refl fits begun.reads (tells_command (setting_of (D.size first.device) base) (now (D.story first.device)) all)
    (carried_goes D.size D.story D.failed base m mid new there runs ends.size ends.book mid.exported change cmd says.0 (subst (λ (n : ℕ). verdict (tables_now (setting_of n base) m) cmd ≡ Ok says.0) (sym begun.reads.device.same) says.1) says.2
    (decided_after D.size D.story D.failed D.tells first mid done begun.reads told cmd change is) all ends.count ends.carried ends.halts ends.kept ends.quiet (ends.carries told (there.sound runs).stands) (told_done _ _ D.tells all told (there.sound runs).stands ends.done))

pub returns-in-Ok-clause-applies : goal.returns-in-Ok-clause-applies
returns-in-Ok-clause-applies g c = λ first commands begun.
    let D = g.D.SectorDevice in
    let mid = c.args.self.now in
    let t = c.args.transaction in
    let ends = c.carry_out-all.ensures in
    let image = shown_first D.size D.story D.failed D.tells first mid t commands begun in
    let change : PlainChange = change_of c.in-Ok.change in
    applies_then D.size D.story D.failed D.tells first mid c.carry_out-all.new.self (all_of (commands_of commands)) change c.carry_out-all.result begun.on begun.reads
    (decided_all D.size D.story D.failed D.tells first mid t commands begun change (c.in-Ok.ensures.whole image)) begun.still ends.carried ends.halts ends.not_halted ends.kept ends.book ends.quiet ends.carries ends.done

pub returns-in-Ok-clause-size : goal.returns-in-Ok-clause-size
returns-in-Ok-clause-size g c = c.carry_out-all.ensures.size

pub returns-in-Ok-clause-count : goal.returns-in-Ok-clause-count
returns-in-Ok-clause-count g c = c.carry_out-all.ensures.count

-- ---- without memory

pub returns-in-Err-clause-goes : goal.returns-in-Err-clause-goes
returns-in-Err-clause-goes g c = λ first commands begun told base m fits.
    let D = g.D.SectorDevice in
    let mid = c.args.self.now in
    refuses_memory D.size D.story D.failed base m (all_of (commands_of commands)) D.tells told first mid begun.on fits
    (reads_alike D.size D.story D.failed D.tells first mid done (refused refusals.OutOfMemory) refl begun.reads)

pub returns-in-Err-clause-applies : goal.returns-in-Err-clause-applies
returns-in-Err-clause-applies g c = λ first commands begun.
    let D = g.D.SectorDevice in
    let mid = c.args.self.now in
    applies_first D.size D.story D.failed D.tells first mid (all_of (commands_of commands)) refusals.OutOfMemory begun.on
    (reads_alike D.size D.story D.failed D.tells first mid done (refused refusals.OutOfMemory) refl begun.reads) (λ is. cc is) (inl refl) (λ device none. begun.still none)
