use Rattle.std.proofs.Common.{◌≡◌, ◌≢◌, ◌∷◌, ◌++◌, ◌+◌, ◌-◌, ◌^◌, [], ℕ, List, true, false, Bool, if◌then◌else◌, refl, sym, ap, ◌∙◌, subst}
use Rattle.std.specs.Prelude.{None, Result, Ok, Err, min}
use Rattle.std.proofs.lemmas.Bool.{true≢false}
use Rattle.std.proofs.lemmas.Result.{err_from_is_err_and}
use Rattle.sector_dev.specs.declared.device.DevError.{DevError}
use Rattle.sector_dev.specs.Disk.{now, synced_image, Counts}
use Rattle.sector_dev.specs.laws.Time.{stays}
use Rattle.segments.specs.declared.run.Run.{Run}
use Rattle.segments.specs.Usages.{IsUsedIn, GivesAll}
use Rattle.segments.specs.Writing.{runs_of}
use Rattle.catalogue.specs.Entries as entries
use Rattle.catalogue.specs.Entries.{has_form}
use Rattle.catalogue.specs.View.{catalogue_of}
use Rattle.catalogue.specs.laws.Kept.{catalogue_is}
use Rattle.commit.specs.declared.sector.Commit.{Commit}
use Rattle.commit.specs.Placing.{Uses, Takes}
use Rattle.commit.specs.Standing.{is_size, is_on_device, runs_fault}
use Rattle.commit.specs.laws.Taking.{took_takes}
use Rattle.pages.specs.declared.stored.StoredCatalogue.{StoredCatalogue}
use Rattle.pages.specs.Stored.{form_of}
use Rattle.store_runs.specs.Calls.{is_failure, is_device_reply}
use Rattle.export_book.specs.Book.{runs_kept}
use Rattle.store.specs.Exported.{AreExportable}
use Rattle.store.specs.Fits.{book_of, listed_in}
use Rattle.store_runs.specs.Changes.{PlainChange}
use Rattle.store_changes.specs.Change.{change_of}
use Rattle.store_changes.specs.OnDisk.{IsCarrying}
use Rattle.store_runs.specs.Carrying.{IsCarried, asked_sizes}
use Rattle.store_runs.specs.Reading.{ended}
use Rattle.store_changes.specs.laws.Prepared.{placed_is, failed_usages, placed_then, fit_then, uses_then}
use Rattle.tables.specs.declared.refusal.Refusal.{Refusal}
use Rattle.tables.specs.declared.refusal.Refusal.TheVariants as refusals
use Rattle.ipc_encode.specs.View.{streams_in}
use Rattle.store.proofs.Carried.{made_change, stands_then, can_publish, taking, has_carried, carries}
use Rattle.store.proofs.store.Store.carry_out.Goals as goal

memory_works : refusals.OutOfMemory ≢ refusals.Device
memory_works is = cc is

pub prepare-requires-clause-sound : goal.prepare-requires-clause-sound
prepare-requires-clause-sound g c =
    made_change (listed_in c.args.self.now) (change_of c.args.change.now) (streams_in c.in_ok-pieces.pieces) c.requires.sound c.in_ok-pieces.ensures.streams c.in_ok-pieces.ensures.short

pub invariant_of-self-in-Ok : goal.invariant_of-self-in-Ok
invariant_of-self-in-Ok g c =
    let sound = made_change (listed_in c.args.self.now) (change_of c.args.change.now) (streams_in c.in_ok-pieces.pieces) c.requires.sound c.in_ok-pieces.ensures.streams c.in_ok-pieces.ensures.short in
    let D = g.D.SectorDevice in
    let s = c.args.self.now in
    let listed = listed_in s in
    let stands = catalogue_is listed s.opened.catalogue.list.kept in
    let change : PlainChange = change_of c.args.change.now in
    let plan = c.in_ok-prepared.prepared.plan in
    let back = c.in_ok-prepared.prepared.back.items in
    let old = s.opened.map in
    let mid = c.prepare.new.map in
    let prep = c.in_ok-prepared.ensures.ok in
    let on = subst (λ (n : ℕ). is_on_device n s.opened.commit.catalogue.run ≡ true) (sym s.same) s.placed in
    let fit = subst (λ (n : ℕ). runs_fault n s.opened.commit.catalogue.run (entries.runs_of listed) ≡ None) (sym s.same) s.fit in
    let sized = c.publish.ensures.size in
    let commit_is = c.settle.ensures.commit in
    let catalogue_is' = c.settle.ensures.catalogue in
    record {
      in_limits = subst (λ (n : ℕ). is_size n ≡ true) (sym sized) s.in_limits;
      same = c.settle.ensures.map.size ∙ c.in_ok-prepared.ensures.size ∙ s.same ∙ sym sized;
      own = ap (λ (k : Commit). k.device_sectors) (commit_is ∙ prep.commit) ∙ s.own ∙ sym sized;
      fit = (λ i. runs_fault ((sized ∙ sym s.same) i) (commit_is i).catalogue.run (entries.runs_of (catalogue_of (catalogue_is' i).list))) ∙ fit_then old mid s.opened.commit listed change plan back prep on fit (runs_kept (book_of s).exports) s.uses sound stands;
      placed = (λ i. is_on_device ((sized ∙ sym s.same) i) (commit_is i).catalogue.run) ∙ placed_then old mid s.opened.commit listed change plan back prep;
      form = (λ i. has_form (form_of (commit_is i).version) (catalogue_of (catalogue_is' i).list))
          ∙ ap (λ (k : Commit). has_form (form_of k.version) (catalogue_of plan.catalogue.list)) prep.commit ∙ prep.form s.form;
      uses = subst (λ (x : StoredCatalogue). Uses c.settle.new.opened.map.entries (c.settle.new.opened.commit.catalogue.run ∷ entries.runs_of (catalogue_of x.list)) (runs_kept (book_of s).exports)) (sym catalogue_is')
          (subst (λ (k : Commit). Uses c.settle.new.opened.map.entries (k.catalogue.run ∷ entries.runs_of (catalogue_of plan.catalogue.list)) (runs_kept (book_of s).exports)) (sym commit_is)
          (uses_then old mid s.opened.commit listed change plan back prep on fit (runs_kept (book_of s).exports) s.uses sound c.settle.new.opened.map stands c.settle.ensures.map));
      exported = subst (λ (n : ℕ). AreExportable n (book_of s).exports) (sym sized) s.exported;
    }

pub invariant_of-self-in-Err : goal.invariant_of-self-in-Err
invariant_of-self-in-Err g c =
    let s = c.args.self.now in
    let listed = listed_in s in
    let change : PlainChange = change_of c.args.change.now in
    let plan = c.in_ok-prepared.prepared.plan in
    let back = c.in_ok-prepared.prepared.back.items in
    let prep = c.in_ok-prepared.ensures.ok in
    let sized = c.publish.ensures.size in
    let gives = subst (λ (rs : List Run). GivesAll c.prepare.new.map c.give_each.new.self rs) c.deref.ensures.value c.give_each.ensures in
    let usages = failed_usages s.opened.map c.prepare.new.map s.opened.commit listed change plan back prep c.give_each.new.self gives in
    record {
      in_limits = subst (λ (n : ℕ). is_size n ≡ true) (sym sized) s.in_limits;
      same = c.give_each.ensures.size ∙ c.in_ok-prepared.ensures.size ∙ s.same ∙ sym sized;
      own = s.own ∙ sym sized;
      fit = subst (λ (n : ℕ). runs_fault n s.opened.commit.catalogue.run (entries.runs_of listed) ≡ None) (sym sized) s.fit;
      placed = subst (λ (n : ℕ). is_on_device n s.opened.commit.catalogue.run ≡ true) (sym sized) s.placed;
      form = s.form;
      uses = λ run. usages run ∙ s.uses run;
      exported = subst (λ (n : ℕ). AreExportable n (book_of s).exports) (sym sized) s.exported;
    }

pub returns-in-Ok-clause-carried : goal.returns-in-Ok-clause-carried
returns-in-Ok-clause-carried g c =
    let s = c.args.self.now in
    let change : PlainChange = change_of c.args.change.now in
    let prep = c.in_ok-prepared.ensures.ok in
    let sizes = asked_sizes s.opened.commit.version (listed_in s) change in
    let takes = took_takes s.opened.map.size (IsUsedIn s.opened.map.entries) sizes (runs_of (prep.pieces ++ prep.pages) ++ prep.run ∷ []) prep.took.took in (
      prep.next,
      prep.few,
      (
        runs_of (prep.pieces ++ prep.pages),
        prep.run,
        subst (λ (n : ℕ). Takes n (IsUsedIn s.opened.map.entries) sizes (Ok (runs_of (prep.pieces ++ prep.pages) ++ prep.run ∷ []))) s.same takes,
        ap (λ (x : StoredCatalogue). catalogue_of x.list) c.settle.ensures.catalogue ∙ prep.catalogue
            ∙ placed_is s.opened.map c.prepare.new.map s.opened.commit (listed_in s) change c.in_ok-prepared.prepared.plan c.in_ok-prepared.prepared.back.items prep,
        c.settle.ensures.commit ∙ prep.commit,
      ),
    )

pub returns-clause-carried : goal.returns-clause-carried
returns-clause-carried g c =
    let s = c.args.self.now in
    let prep = c.in_ok-prepared.ensures.ok in
    let sizes = asked_sizes s.opened.commit.version (listed_in s) (change_of c.args.change.now) in
    let runs = runs_of (prep.pieces ++ prep.pages) ++ prep.run ∷ [] in
    let takes = took_takes s.opened.map.size (IsUsedIn s.opened.map.entries) sizes runs prep.took.took in
    (prep.next, prep.few, (runs, subst (λ (n : ℕ). Takes n (IsUsedIn s.opened.map.entries) sizes (Ok runs)) s.same takes))

-- ---- what the disk holds

pub returns-in_err-pieces-clause-carries : goal.returns-in_err-pieces-clause-carries
returns-in_err-pieces-clause-carries g c = λ told on.
    let D = g.D.SectorDevice in
    let s = c.args.self.now in
    stays (IsCarrying (D.size s.device) (IsUsedIn s.opened.map.entries) s.opened.commit (listed_in s) (now (D.story s.device)) (change_of c.args.change.now)) (D.story s.device)

pub returns-in_err-prepared-clause-carries : goal.returns-in_err-prepared-clause-carries
returns-in_err-prepared-clause-carries g c = λ told on.
    let D = g.D.SectorDevice in
    let s = c.args.self.now in
    stays (IsCarrying (D.size s.device) (IsUsedIn s.opened.map.entries) s.opened.commit (listed_in s) (now (D.story s.device)) (change_of c.args.change.now)) (D.story s.device)

pub returns-in-Ok-clause-carries : goal.returns-in-Ok-clause-carries
returns-in-Ok-clause-carries g c = λ told on.
    let sound = made_change (listed_in c.args.self.now) (change_of c.args.change.now) (streams_in c.in_ok-pieces.pieces) c.requires.sound c.in_ok-pieces.ensures.streams c.in_ok-pieces.ensures.short in
    carries c.args.self.now c.prepare.new.map (change_of c.args.change.now) c.in_ok-prepared.prepared.plan c.in_ok-prepared.prepared.back.items c.in_ok-prepared.ensures.ok sound
    (g.D.SectorDevice.story c.publish.new.device) on (c.publish.ensures.moments told)

pub returns-clause-carries : goal.returns-clause-carries
returns-clause-carries g c = λ told on.
    let sound = made_change (listed_in c.args.self.now) (change_of c.args.change.now) (streams_in c.in_ok-pieces.pieces) c.requires.sound c.in_ok-pieces.ensures.streams c.in_ok-pieces.ensures.short in
    carries c.args.self.now c.prepare.new.map (change_of c.args.change.now) c.in_ok-prepared.prepared.plan c.in_ok-prepared.prepared.back.items c.in_ok-prepared.ensures.ok sound
    (g.D.SectorDevice.story c.publish.new.device) on (c.publish.ensures.moments told)

pub returns-in-Ok-clause-done : goal.returns-in-Ok-clause-done
returns-in-Ok-clause-done g c = λ told on.
    let sound = made_change (listed_in c.args.self.now) (change_of c.args.change.now) (streams_in c.in_ok-pieces.pieces) c.requires.sound c.in_ok-pieces.ensures.streams c.in_ok-pieces.ensures.short in
    let D = g.D.SectorDevice in
    let s = c.args.self.now in
    let s0 = now (D.story s.device) in
    let s1 = now (D.story c.publish.new.device) in
    let change : PlainChange = change_of c.args.change.now in
    let plan = c.in_ok-prepared.prepared.plan in
    let back = c.in_ok-prepared.prepared.back.items in
    let prep = c.in_ok-prepared.ensures.ok in
    let can = can_publish s c.prepare.new.map change plan back prep sound s0 on in
    let p = c.in-Ok.ensures.published told can in
    record {
      stands = record {
        quiet = p.quiet;
        found = stands_then (D.size s.device) (D.size c.publish.new.device) (synced_image s1) plan.commit c.settle.new.opened.commit plan.catalogue c.settle.new.opened.catalogue c.publish.ensures.size
            c.settle.ensures.commit c.settle.ensures.catalogue p.stands;
      };
      begun = p.begun;
      takes = taking s.opened.map c.prepare.new.map s.opened.commit (listed_in s) change plan back prep (D.size s.device) s.same sound s0 s1 p.touches;
      holds = has_carried s.opened.map c.prepare.new.map s.opened.commit (listed_in s) change plan back prep (D.size s.device) s.same sound s0 (synced_image s1) p.stands p.holds;
    }

-- ---- no device failed

not_failed : (r : Refusal) → r ≢ refusals.Device → is_failure r ≡ false
not_failed refusals.Device other = absurd (other refl)
not_failed _ other = refl

other_end : (ends : Result (Unit {0}) Refusal) → is_device_reply (ended ends) ≡ false → ends ≡ Err refusals.Device → ⊥
other_end ends quiet is = true≢false (sym (ap (λ (x : Result (Unit {0}) Refusal). is_device_reply (ended x)) is) ∙ quiet)

memory_on : refusals.OutOfMemory ≢ refusals.Halted
memory_on is = cc is

device_on : refusals.Device ≢ refusals.Halted
device_on is = cc is

pub returns-in_err-pieces-clause-count : goal.returns-in_err-pieces-clause-count
returns-in_err-pieces-clause-count g c =
    let p = err_from_is_err_and c.from_residual.result c.from_residual.ensures.1 in rw (p.1, p.2) refl

pub returns-in_err-pieces-clause-carried : goal.returns-in_err-pieces-clause-carried
returns-in_err-pieces-clause-carried g c =
    let p = err_from_is_err_and c.from_residual.result c.from_residual.ensures.1 in rw (p.1, p.2) tt

pub returns-in_err-pieces-clause-halts : goal.returns-in_err-pieces-clause-halts
returns-in_err-pieces-clause-halts g c =
    let p = err_from_is_err_and c.from_residual.result c.from_residual.ensures.1 in rw (p.1, p.2) (λ is. absurd (true≢false (sym is ∙ c.requires.on)), λ is. absurd (other_end (Err refusals.OutOfMemory) refl is))

pub returns-in_err-pieces-clause-not_halted : goal.returns-in_err-pieces-clause-not_halted
returns-in_err-pieces-clause-not_halted g c =
    let p = err_from_is_err_and c.from_residual.result c.from_residual.ensures.1 in rw (p.1, p.2) memory_on

pub returns-in_err-pieces-clause-kept : goal.returns-in_err-pieces-clause-kept
returns-in_err-pieces-clause-kept g c =
    let p = err_from_is_err_and c.from_residual.result c.from_residual.ensures.1 in rw p.1 (refl, refl, λ run. refl)

pub returns-in_err-pieces-clause-quiet : goal.returns-in_err-pieces-clause-quiet
returns-in_err-pieces-clause-quiet g c =
    let p = err_from_is_err_and c.from_residual.result c.from_residual.ensures.1 in rw (p.1, p.2) (λ other. refl)

pub returns-in_err-prepared-clause-count : goal.returns-in_err-prepared-clause-count
returns-in_err-prepared-clause-count g c =
    let failed = g.D.SectorDevice.failed c.args.self.now.device in
    let p = err_from_is_err_and c.from_residual-in_err-prepared.result c.from_residual-in_err-prepared.ensures.1 in
    rw (p.1, p.2) (sym (ap (λ (b : Bool). if b then min (failed + 1) (2 ^ 64 - 1) else failed) (not_failed c.in_err-prepared.field-0.0 c.in_err-prepared.ensures.device)))

pub returns-in_err-prepared-clause-carried : goal.returns-in_err-prepared-clause-carried
returns-in_err-prepared-clause-carried g c =
    let s = c.args.self.now in
    let change : PlainChange = change_of c.args.change.now in
    let p = err_from_is_err_and c.from_residual-in_err-prepared.result c.from_residual-in_err-prepared.ensures.1 in
    rw (p.1, p.2) (subst (λ (n : ℕ). IsCarried n (IsUsedIn s.opened.map.entries) s.opened.commit (listed_in s) change (Err c.in_err-prepared.field-0.0) s.opened.commit (listed_in s)) s.same c.in_err-prepared.ensures.why)

pub returns-in_err-prepared-clause-halts : goal.returns-in_err-prepared-clause-halts
returns-in_err-prepared-clause-halts g c =
    let p = err_from_is_err_and c.from_residual-in_err-prepared.result c.from_residual-in_err-prepared.ensures.1 in rw (p.1, p.2) (λ is. absurd (true≢false (sym is ∙ c.requires.on)), λ is. absurd (other_end (Err c.in_err-prepared.field-0.0) (not_failed c.in_err-prepared.field-0.0 c.in_err-prepared.ensures.device) is))

pub returns-in_err-prepared-clause-not_halted : goal.returns-in_err-prepared-clause-not_halted
returns-in_err-prepared-clause-not_halted g c =
    let p = err_from_is_err_and c.from_residual-in_err-prepared.result c.from_residual-in_err-prepared.ensures.1 in rw (p.1, p.2) c.in_err-prepared.ensures.not_halted

pub returns-in_err-prepared-clause-kept : goal.returns-in_err-prepared-clause-kept
returns-in_err-prepared-clause-kept g c =
    let p = err_from_is_err_and c.from_residual-in_err-prepared.result c.from_residual-in_err-prepared.ensures.1 in rw p.1 (refl, refl, c.in_err-prepared.ensures.err)

pub returns-in_err-prepared-clause-quiet : goal.returns-in_err-prepared-clause-quiet
returns-in_err-prepared-clause-quiet g c =
    let p = err_from_is_err_and c.from_residual-in_err-prepared.result c.from_residual-in_err-prepared.ensures.1 in rw (p.1, p.2) (λ other. refl)

-- ---- it was called

pub returns-in-Ok-clause-size : goal.returns-in-Ok-clause-size
returns-in-Ok-clause-size g c = c.publish.ensures.size

pub returns-in-Ok-clause-count : goal.returns-in-Ok-clause-count
returns-in-Ok-clause-count g c = c.in-Ok.ensures.count

pub returns-in-Ok-clause-halts : goal.returns-in-Ok-clause-halts
returns-in-Ok-clause-halts g c = (λ is. absurd (true≢false (sym is ∙ c.requires.on)), λ is. absurd (other_end (Ok tt) refl is))

pub returns-clause-size : goal.returns-clause-size
returns-clause-size g c = c.publish.ensures.size

pub returns-clause-count : goal.returns-clause-count
returns-clause-count g c =
    let D = g.D.SectorDevice in
    subst (λ (e : DevError). Counts {T = Unit {0}} (D.failed c.args.self.now.device) (D.failed c.publish.new.device) (Err e)) c.in-Err.ensures.error c.in-Err.ensures.count

pub returns-clause-halts : goal.returns-clause-halts
returns-clause-halts g c = (λ is. refl, λ is. refl)

pub returns-clause-not_halted : goal.returns-clause-not_halted
returns-clause-not_halted g c = device_on

pub returns-clause-kept : goal.returns-clause-kept
returns-clause-kept g c =
    let s = c.args.self.now in
    let change : PlainChange = change_of c.args.change.now in
    let gives = subst (λ (rs : List Run). GivesAll c.prepare.new.map c.give_each.new.self rs) c.deref.ensures.value c.give_each.ensures in
    (refl, refl, failed_usages s.opened.map c.prepare.new.map s.opened.commit (listed_in s) change c.in_ok-prepared.prepared.plan c.in_ok-prepared.prepared.back.items c.in_ok-prepared.ensures.ok c.give_each.new.self gives)

pub returns-clause-quiet : goal.returns-clause-quiet
returns-clause-quiet g c = λ other. absurd (other refl)
