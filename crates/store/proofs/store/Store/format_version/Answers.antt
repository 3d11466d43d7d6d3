use Rattle.std.proofs.Common.{◌≡◌, ◌≢◌, ◌∙◌, ℕ, true, [], ◌∷◌, Err, refl, ap, sym, subst}
use Rattle.std.proofs.lemmas.Bool.{true≢false}
use Rattle.sector_dev.specs.Disk.{now, shown_image, synced_image}
use Rattle.sector_dev.specs.Time.{LeavesOnly}
use Rattle.commit.specs.declared.cause.Cause.{Cause}
use Rattle.commit.specs.declared.formatting.FormatError.TheVariants as errors
use Rattle.commit.specs.declared.sector.Commit.{Commit}
use Rattle.commit.specs.Ruling.{ruling}
use Rattle.commit.specs.Standing.{is_size, is_on_device, Stands}
use Rattle.commit.specs.Formatting.{first_commit}
use Rattle.commit.specs.Placing.{Uses}
use Rattle.catalogue.specs.Entries.{PlainCatalogue, runs_of, has_form}
use Rattle.catalogue.specs.View.{catalogue_of}
use Rattle.commit.specs.declared.opening_refusal.OpeningRefusal.{OpeningRefusal}
use Rattle.tables.specs.Tables.{no_tables}
use Rattle.store_runs.specs.Calls.{format_call, shut_by, counted}
use Rattle.store_runs.specs.Machine.{opened, shut_down, Allows}
use Rattle.store_runs.specs.Runs.{Goes}
use Rattle.store_runs.specs.Held.{tables_held}
use Rattle.pages.specs.Stored.{stored_reading, form_of}
use Rattle.export_book.specs.Book.{PlainBook, runs_kept}
use Rattle.store.specs.Exported.{AreExportable}
use Rattle.store.specs.Fits.{setting_of, fresh, ExportsFit}
use Rattle.store.specs.Opening.{formatting_of, TellsFormatting, IsOfFormatting}
use Rattle.store.proofs.Formatted.{formatting_counts, formatting_limits, formatted_limits, formatting_damaged, first_placed, formatting_tells, formatting_reason, no_runs, early_moments, early_none, format_refused, refused_allows, format_done, formatted_stands, new_tables}
use Rattle.store.proofs.store.Store.format_version.Goals as goal

pub invariant_of-result : goal.invariant_of-result
invariant_of-result g c =
    let D = g.D.SectorDevice in
    let size = D.size c.args.device in
    let limits : is_size size ≡ true = formatted_limits c.format.result _ (is_size size) c.in-Ok.is c.format.ensures.limits in
    record {
      in_limits = subst (λ (n : ℕ). is_size n ≡ true) (sym c.format.ensures.size) limits;
      same = c.in-Ok.ensures.map_size ∙ sym c.format.ensures.size;
      own = ap (λ (k : Commit). k.device_sectors) c.in-Ok.ensures.commit ∙ sym c.format.ensures.size;
      fit = no_runs (D.size c.format.new.device) c.in-Ok.commit.catalogue.run (catalogue_of c.empty.result) c.empty.ensures;
      placed = (λ i. is_on_device (c.format.ensures.size i) (c.in-Ok.ensures.commit i).catalogue.run) ∙ first_placed size c.args.version limits;
      form = ap (has_form (form_of c.in-Ok.commit.version)) c.empty.ensures;
      uses = subst (λ (b : PlainBook). Uses c.in-Ok.map.entries (c.in-Ok.commit.catalogue.run ∷ runs_of (catalogue_of c.empty.result)) (runs_kept b.exports)) (sym c.new.ensures)
          (subst (λ (x : PlainCatalogue). Uses c.in-Ok.map.entries (c.in-Ok.commit.catalogue.run ∷ runs_of x) []) (sym c.empty.ensures) c.in-Ok.ensures.uses);
      exported = subst (λ (b : PlainBook). AreExportable (D.size c.format.new.device) b.exports) (sym c.new.ensures) tt;
    }

pub returns-in-Ok-clause-opened : goal.returns-in-Ok-clause-opened
returns-in-Ok-clause-opened g c = λ told base m fits.
    let D = g.D.SectorDevice in
    let s0 = D.story c.args.device in
    let s1 = D.story c.format.new.device in
    let size = D.size c.args.device in
    let same = c.format.ensures.size in
    let shows = g.met.D.SectorDevice.shows c.args.device told in
    let spelled = c.empty_text_has_no_tables.ensures in
    let moments = early_moments size c.args.version fits.in_limits spelled base m s0 s1 shows fits.allows (c.format.ensures.untouched told) (c.format.ensures.moments told) in
    let early = early_none size c.args.version fits.in_limits spelled base m s0 shows fits.allows (c.in-Ok.ensures.none_before told) in
    let formatted = c.in-Ok.ensures.formatted told in
    let commit = c.in-Ok.commit in
    let listed = catalogue_of c.empty.result in
    let goes = format_done size c.args.version fits.in_limits spelled base m s0 s1 (D.failed c.args.device) (D.failed c.format.new.device) fits.fresh fits.allows moments early formatted c.in-Ok.ensures.count in
    let stands = formatted_stands size c.args.version fits.in_limits spelled base m (now s0) (now s1) formatted in
    record {
      next = opened [];
      same = same;
      goes = goes;
      fits = record {
        phase = refl;
        started = refl;
        device = record {
          in_limits = subst (λ (n : ℕ). is_size n ≡ true) (sym same) fits.in_limits;
          allows = subst (λ (n : ℕ). LeavesOnly (Allows (setting_of n base) (opened [])) (now s1)) (sym same) goes.settles;
          fresh = λ no. absurd (true≢false no);
        };
        sound = λ on. record {
          stands = subst (λ (n : ℕ). Stands stored_reading n (now s1) commit listed) (sym same)
              (subst (λ (k : Commit). Stands stored_reading size (now s1) k listed) (sym c.in-Ok.ensures.commit) (subst (λ (d : PlainCatalogue). Stands stored_reading size (now s1) (first_commit size c.args.version) d) (sym c.empty.ensures) stands));
          tables = ap (tables_held (synced_image (now s1))) c.empty.ensures ∙ new_tables size c.args.version fits.in_limits spelled base m (fits.fresh early) (synced_image (now s1));
          uses = subst (λ (b : PlainBook). Uses c.in-Ok.map.entries (commit.catalogue.run ∷ runs_of (catalogue_of c.empty.result)) (runs_kept b.exports)) (sym c.new.ensures)
              (subst (λ (d : PlainCatalogue). Uses c.in-Ok.map.entries (commit.catalogue.run ∷ runs_of d) []) (sym c.empty.ensures) c.in-Ok.ensures.uses);
          none = refl;
          exports = subst (λ (b : PlainBook). ExportsFit (synced_image (now s1)) b.exports []) (sym c.new.ensures) tt;
          next = ap (λ (b : PlainBook). b.next) c.new.ensures;
        };
      };
    }

pub returns-in-Ok-clause-formatted : goal.returns-in-Ok-clause-formatted
returns-in-Ok-clause-formatted g c = λ told.
    let D = g.D.SectorDevice in
    let s0 = D.story c.args.device in
    let s1 = D.story c.format.new.device in
    let size = D.size c.args.device in
    let commit = c.in-Ok.commit in
    let listed = catalogue_of c.empty.result in
    let formatted = c.in-Ok.ensures.formatted told in
    let within = formatted_limits c.format.result _ (is_size size) c.in-Ok.is c.format.ensures.limits in
    let stands = formatted_stands size c.args.version within c.empty_text_has_no_tables.ensures no_tables fresh (now s0) (now s1) formatted in
    record {
      none_before = c.in-Ok.ensures.none_before told;
      moments = c.format.ensures.moments told;
      formatted = formatted;
      stands = subst (λ (n : ℕ). Stands stored_reading n (now s1) commit listed) (sym c.format.ensures.size)
          (subst (λ (k : Commit). Stands stored_reading size (now s1) k listed) (sym c.in-Ok.ensures.commit) (subst (λ (d : PlainCatalogue). Stands stored_reading size (now s1) (first_commit size c.args.version) d) (sym c.empty.ensures) stands));
      made = c.in-Ok.ensures.made told;
    }

pub returns-in-Ok-clause-empty : goal.returns-in-Ok-clause-empty
returns-in-Ok-clause-empty g c =
    record {
      empty = c.empty.ensures;
      commit = c.in-Ok.ensures.commit;
      uses = subst (λ (d : PlainCatalogue). Uses c.in-Ok.map.entries (c.in-Ok.commit.catalogue.run ∷ runs_of d) []) (sym c.empty.ensures) c.in-Ok.ensures.uses;
      none_open = c.new.ensures;
      on = refl;
    }

pub returns-in-Ok-clause-in_limits : goal.returns-in-Ok-clause-in_limits
returns-in-Ok-clause-in_limits g c = formatted_limits c.format.result _ (is_size (g.D.SectorDevice.size c.args.device)) c.in-Ok.is c.format.ensures.limits

pub returns-in-Err-clause-refused : goal.returns-in-Err-clause-refused
returns-in-Err-clause-refused g c = λ told base m fits.
    let D = g.D.SectorDevice in
    let s0 = D.story c.args.device in
    let s1 = D.story c.format.new.device in
    let size = D.size c.args.device in
    let before = D.failed c.args.device in
    let after = D.failed c.format.new.device in
    let same = c.format.ensures.size in
    let shows = g.met.D.SectorDevice.shows c.args.device told in
    let spelled = c.empty_text_has_no_tables.ensures in
    let moments = early_moments size c.args.version fits.in_limits spelled base m s0 s1 shows fits.allows (c.format.ensures.untouched told) (c.format.ensures.moments told) in
    let within = fits.in_limits in
    let sound : (cause : Cause) → c.in-Err.error ≢ errors.Damaged cause = λ cause is. true≢false (sym within ∙ c.in-Err.ensures.damaged cause is) in
    let goes = format_refused size c.args.version fits.in_limits spelled base m c.in-Err.error s0 s1 before after fits.fresh fits.allows moments sound (λ other. c.in-Err.ensures.quiet other told) (formatting_counts c.format.result c.in-Err.error before after c.in-Err.is c.format.ensures.count)
    (λ is. c.format.ensures.already (c.in-Err.is ∙ ap Err is) told) in
    record {
      same = same;
      goes = subst (λ (r : OpeningRefusal). Goes (setting_of size base) m format_call (shut_by r) s0 s1 before after (shut_down m)) (sym c.formatting_refusal.ensures) goes;
      fits = record {
        in_limits = subst (λ (n : ℕ). is_size n ≡ true) (sym same) fits.in_limits;
        allows = subst (λ (n : ℕ). LeavesOnly (Allows (setting_of n base) (shut_down m)) (now s1)) (sym same) (refused_allows size c.args.version fits.in_limits spelled base m s0 s1 fits.fresh fits.allows moments);
        fresh = λ early. let f = fits.fresh early in record { settled = f.settled; doubt = f.doubt; began = f.began };
      };
    }

pub returns-in-Err-clause-told : goal.returns-in-Err-clause-told
returns-in-Err-clause-told g c = λ told.
    let D = g.D.SectorDevice in
    let size = D.size c.args.device in
    let found = ruling (shown_image (now (D.story c.args.device))) in
    let e = c.in-Err.error in
    let damaged = formatting_damaged c.format.result e size c.in-Err.is c.in-Err.ensures.damaged (λ no. (c.format.ensures.limits no).0) in
    subst (λ (r : OpeningRefusal). TellsFormatting r size found) (sym c.formatting_refusal.ensures)
    (formatting_tells e size found (λ is. c.format.ensures.already (c.in-Err.is ∙ ap Err is) told) damaged (λ is. c.format.ensures.memory (c.in-Err.is ∙ ap Err is) told))

pub returns-in-Err-clause-reason : goal.returns-in-Err-clause-reason
returns-in-Err-clause-reason g c =
    let size = g.D.SectorDevice.size c.args.device in
    let e = c.in-Err.error in
    subst (λ (r : OpeningRefusal). IsOfFormatting size r) (sym c.formatting_refusal.ensures)
    (formatting_reason e size (formatting_damaged c.format.result e size c.in-Err.is c.in-Err.ensures.damaged (λ no. (c.format.ensures.limits no).0)))

pub returns-in-Err-clause-untouched : goal.returns-in-Err-clause-untouched
returns-in-Err-clause-untouched g c = c.format.ensures.untouched

pub returns-in-Err-clause-quiet : goal.returns-in-Err-clause-quiet
returns-in-Err-clause-quiet g c = λ other told. c.in-Err.ensures.quiet (λ is. other (c.formatting_refusal.ensures ∙ ap formatting_of is)) told

pub returns-in-Err-clause-moments : goal.returns-in-Err-clause-moments
returns-in-Err-clause-moments g c = c.format.ensures.moments

pub returns-in-Err-clause-limits : goal.returns-in-Err-clause-limits
returns-in-Err-clause-limits g c = λ no.
    let both = c.format.ensures.limits no in
    (c.formatting_refusal.ensures ∙ ap formatting_of (formatting_limits c.format.result c.in-Err.error c.in-Err.is both.0), both.1)

pub returns-in-Err-clause-count_back : goal.returns-in-Err-clause-count_back
returns-in-Err-clause-count_back g c =
    let D = g.D.SectorDevice in
    let before = D.failed c.args.device in
    let after = D.failed c.format.new.device in
    subst (λ (r : OpeningRefusal). after ≡ counted (shut_by r) before) (sym c.formatting_refusal.ensures) (formatting_counts c.format.result c.in-Err.error before after c.in-Err.is c.format.ensures.count)

-- ---- no store was made

pub returns-in-Err-clause-opened : goal.returns-in-Err-clause-opened
returns-in-Err-clause-opened g c = tt

pub returns-in-Err-clause-formatted : goal.returns-in-Err-clause-formatted
returns-in-Err-clause-formatted g c = tt

pub returns-in-Err-clause-empty : goal.returns-in-Err-clause-empty
returns-in-Err-clause-empty g c = tt

pub returns-in-Err-clause-in_limits : goal.returns-in-Err-clause-in_limits
returns-in-Err-clause-in_limits g c = tt

pub returns-in-Err-clause-size : goal.returns-in-Err-clause-size
returns-in-Err-clause-size g c = tt

pub returns-in-Err-clause-count : goal.returns-in-Err-clause-count
returns-in-Err-clause-count g c = tt
