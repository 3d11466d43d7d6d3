use Rattle.commit.specs.Placing.{Uses}
use Rattle.catalogue.specs.Entries.{runs_of}
use Rattle.std.proofs.Common.{List, [], ◌∷◌, ◌≡◌, ℕ, true, ◌∙◌, refl, ap, sym, subst}
use Rattle.std.proofs.lemmas.Bool.{true≢false}
use Rattle.sector_dev.specs.Disk.{now, synced_image}
use Rattle.sector_dev.specs.Time.{LeavesOnly}
use Rattle.commit.specs.Standing.{is_size, Stands}
use Rattle.commit.specs.Opening.{standing_shown}
use Rattle.catalogue.specs.View.{catalogue_of}
use Rattle.commit.specs.declared.opening_refusal.OpeningRefusal.{OpeningRefusal}
use Rattle.store_runs.specs.Calls.{open_call, shut_by, counted}
use Rattle.store_runs.specs.Machine.{Export, shut_down, Allows}
use Rattle.store_runs.specs.Runs.{Goes}
use Rattle.pages.specs.Stored.{stored_reading}
use Rattle.export_book.specs.Book.{PlainBook, runs_kept}
use Rattle.store.specs.Exported.{AreExportable}
use Rattle.store.specs.Fits.{setting_of, ExportsFit}
use Rattle.store.specs.Opening.{opening_of, TellsOpening}
use Rattle.store.proofs.Opened.{found_shown, opening_done, opening_refused, opening_counts, opening_tells, opening_limits, device_after, synced_then, runs_then}
use Rattle.store.proofs.store.Store.open.Goals as goal

pub returns-in-Err-clause-refused : goal.returns-in-Err-clause-refused
returns-in-Err-clause-refused g c = λ told base m fits.
    let D = g.D.SectorDevice in
    let s0 = D.story c.args.device in
    let s1 = D.story c.recover.new.device in
    let size = D.size c.args.device in
    let same = c.recover.ensures.size in
    let shows = g.met.D.SectorDevice.shows c.args.device told in
    let moments = c.recover.ensures.moments told in
    let goes = opening_refused size base m c.in-Err.error s0 s1 (D.failed c.args.device) (D.failed c.recover.new.device) shows fits.allows moments (c.in-Err.ensures.refused told) (λ other. c.in-Err.ensures.quiet other told) (opening_counts c.recover.result c.in-Err.error (D.failed c.args.device) (D.failed c.recover.new.device) c.in-Err.is c.recover.ensures.count) in
    record {
      same = same;
      goes = subst (λ (r : OpeningRefusal). Goes (setting_of size base) m open_call (shut_by r) s0 s1 (D.failed c.args.device) (D.failed c.recover.new.device) (shut_down m)) (sym c.opening_refusal.ensures) goes;
      fits = record {
        in_limits = subst (λ (n : ℕ). is_size n ≡ true) (sym same) fits.in_limits;
        allows = subst (λ (n : ℕ). LeavesOnly (Allows (setting_of n base) (shut_down m)) (now s1)) (sym same) (device_after size base m s0 s1 shows fits.allows moments);
        fresh = λ early. let f = fits.fresh early in record { settled = f.settled; doubt = f.doubt; began = f.began };
      };
    }

pub returns-in-Ok-clause-opened : goal.returns-in-Ok-clause-opened
returns-in-Ok-clause-opened g c = λ told base m fits.
    let D = g.D.SectorDevice in
    let s0 = D.story c.args.device in
    let s1 = D.story c.recover.new.device in
    let size = D.size c.args.device in
    let same = c.recover.ensures.size in
    let shows = g.met.D.SectorDevice.shows c.args.device told in
    let moments = c.recover.ensures.moments told in
    let commit = c.in-Ok.opened.commit in
    let catalogue = catalogue_of c.in-Ok.opened.catalogue.list in
    let stands = c.in-Ok.ensures.found told in
    let synced = c.in-Ok.ensures.synced told in
    let found = found_shown size base m s0 commit catalogue shows fits.allows stands in
    let goes = opening_done size base m s0 s1 (D.failed c.args.device) (D.failed c.recover.new.device) commit catalogue shows fits.allows moments stands synced c.in-Ok.ensures.count found in
    let after = runs_then base m _ found in
    record {
      next = found.next;
      same = same;
      goes = goes;
      fits = record {
        phase = after.0;
        started = after.1;
        device = record {
          in_limits = subst (λ (n : ℕ). is_size n ≡ true) (sym same) fits.in_limits;
          allows = subst (λ (n : ℕ). LeavesOnly (Allows (setting_of n base) found.next) (now s1)) (sym same) goes.settles;
          fresh = λ no. absurd (true≢false (sym after.1 ∙ no));
        };
        sound = λ on. record {
          stands = subst (λ (n : ℕ). Stands stored_reading n (now s1) commit catalogue) (sym same) (c.in-Ok.ensures.stands told);
          tables = synced_then s0 s1 catalogue _ synced found.tables;
          uses = subst (λ (b : PlainBook). Uses c.in-Ok.opened.map.entries (commit.catalogue.run ∷ runs_of catalogue) (runs_kept b.exports)) (sym c.new.ensures) c.in-Ok.ensures.uses;
          none = after.2;
          exports = subst (λ (b : PlainBook). ExportsFit (synced_image (now s1)) b.exports found.next.exports) (sym c.new.ensures)
              (subst (λ (es : List Export). ExportsFit (synced_image (now s1)) [] es) (sym after.3) tt);
          next = ap (λ (b : PlainBook). b.next) c.new.ensures ∙ sym after.4;
        };
      };
    }

pub returns-in-Ok-clause-found : goal.returns-in-Ok-clause-found
returns-in-Ok-clause-found g c = λ told.
    let D = g.D.SectorDevice in
    record {
      found = c.in-Ok.ensures.found told;
      moments = c.recover.ensures.moments told;
      synced = c.in-Ok.ensures.synced told;
      stands = subst (λ (n : ℕ). Stands stored_reading n (now (D.story c.recover.new.device)) c.in-Ok.opened.commit (catalogue_of c.in-Ok.opened.catalogue.list)) (sym c.recover.ensures.size) (c.in-Ok.ensures.stands told);
      uses = c.in-Ok.ensures.uses;
      none_open = c.new.ensures;
      on = refl;
    }

pub returns-in-Err-clause-told : goal.returns-in-Err-clause-told
returns-in-Err-clause-told g c = λ told.
    let D = g.D.SectorDevice in
    let found = standing_shown stored_reading (D.size c.args.device) (D.story c.args.device) in
    subst (λ (r : OpeningRefusal). TellsOpening r found) (sym c.opening_refusal.ensures) (opening_tells c.in-Err.error found (c.in-Err.ensures.refused told))

pub returns-in-Err-clause-quiet : goal.returns-in-Err-clause-quiet
returns-in-Err-clause-quiet g c = λ other told. c.in-Err.ensures.quiet (λ is. other (c.opening_refusal.ensures ∙ ap opening_of is)) told

pub returns-in-Err-clause-moments : goal.returns-in-Err-clause-moments
returns-in-Err-clause-moments g c = c.recover.ensures.moments

pub returns-in-Err-clause-limits : goal.returns-in-Err-clause-limits
returns-in-Err-clause-limits g c = λ no.
    let both = c.recover.ensures.limits no in
    (c.opening_refusal.ensures ∙ opening_limits c.recover.result c.in-Err.error c.in-Err.is both.0, both.1)

pub returns-in-Err-clause-count_back : goal.returns-in-Err-clause-count_back
returns-in-Err-clause-count_back g c =
    let D = g.D.SectorDevice in
    let before = D.failed c.args.device in
    let after = D.failed c.recover.new.device in
    subst (λ (r : OpeningRefusal). after ≡ counted (shut_by r) before) (sym c.opening_refusal.ensures)
    (opening_counts c.recover.result c.in-Err.error before after c.in-Err.is c.recover.ensures.count)

-- ---- no export is open

pub returns-in-Ok-clause-none_open : goal.returns-in-Ok-clause-none_open
returns-in-Ok-clause-none_open g c = c.new.ensures

pub invariant_of-result-clause-uses : goal.invariant_of-result-clause-uses
invariant_of-result-clause-uses g c =
    subst (λ (b : PlainBook). Uses c.in-Ok.opened.map.entries (c.in-Ok.opened.commit.catalogue.run ∷ runs_of (catalogue_of c.in-Ok.opened.catalogue.list)) (runs_kept b.exports)) (sym c.new.ensures) c.in-Ok.ensures.uses

pub invariant_of-result-clause-exported : goal.invariant_of-result-clause-exported
invariant_of-result-clause-exported g c =
    subst (λ (b : PlainBook). AreExportable (g.D.SectorDevice.size c.recover.new.device) b.exports) (sym c.new.ensures) tt

-- ---- it has the form of its version

pub invariant_of-result-clause-form : goal.invariant_of-result-clause-form
invariant_of-result-clause-form g c = c.in-Ok.ensures.form
