-- A change that was carried out, in the words of the machine.
use Rattle.std.specs.Prelude.{◌≡◌, ◌≢◌, ◌⊎◌, ◌↔◌, ◌<◌, ◌+◌, ◌-◌, ◌^◌, ℕ, min, Bool, true, false, Some, Result, Ok, Err, IfErr, OnOk, refl, if◌then◌else◌}
use Rattle.std.proofs.Common.{inl, inr, ⊎_elim, sym, ap, ◌∙◌, subst}
use Rattle.std.proofs.lemmas.Bool.{lt-ltb, true≢false, false_from_ne_true}
use Rattle.sector_dev.specs.Disk.{Disk, Story, Image, now, synced_image, shown_image}
use Rattle.sector_dev.specs.declared.device.SectorDevice.{Ghosts}
use Rattle.sector_dev.specs.Time.{Grows, LeavesOnly}
use Rattle.sector_dev.specs.laws.Time.{weaken, now_has}
use Rattle.sector_dev.specs.laws.Crash.{only_image}
use Rattle.segments.specs.declared.run.Run.{Run}
use Rattle.segments.specs.Usages.{IsUsedIn}
use Rattle.catalogue.specs.Entries.{PlainCatalogue, IsCatalogue}
use Rattle.catalogue.specs.laws.Kept.{catalogue_is}
use Rattle.commit.specs.Standing.{is_size, rules, standing, used_runs, InSome}
use Rattle.commit.specs.declared.sector.Commit.{Commit}
use Rattle.export_book.specs.Book.{PlainBook}
use Rattle.tables.specs.declared.refusal.Refusal.{Refusal}
use Rattle.tables.specs.declared.refusal.Refusal.TheVariants as refusals
use Rattle.tables.specs.declared.refusal.Limit.TheVariants as limits
use Rattle.tables.specs.Tables.{Tables}
use Rattle.tables.specs.Commands.{PlainCommand}
use Rattle.tables.specs.Verdict.{verdict, after}
use Rattle.store.specs.declared.store.Store.{Store}
use Rattle.store_runs.specs.Calls.{apply_call, done, refused, counted}
use Rattle.store_runs.specs.Machine.{holds, Setting, Machine, running, halted, tables_now, Allows, meanwhile, has_written, settle, halt}
use Rattle.store_runs.specs.Steps.{Step}
use Rattle.store_runs.specs.Rooms.{CommandDecides}
use Rattle.store_runs.specs.Runs.{Goes}
use Rattle.store_runs.specs.Held.{tables_held, held_tables, held_by}
use Rattle.pages.specs.Stored.{stored_reading}
use Rattle.store.specs.Fits.{book_of, setting_of, listed_in, ExportsFit, StoreFits, IsSound}
use Rattle.store_runs.specs.Changes.{PlainChange, IsOfCatalogue, MakesOf, placed_segments}
use Rattle.store_changes.specs.laws.Decided.{of_decided}
use Rattle.store_runs.specs.Deciding.{IsDecided}
use Rattle.store.specs.Exported.{AreExportable}
use Rattle.store_runs.specs.Carrying.{IsCarried, placed, commit_placed}
use Rattle.store_runs.specs.Reading.{ended}
use Rattle.store.specs.Applying.{GoesOn, EndsAs, IsKept, IsCarryingAtEachMoment, IsCarriedOnDisk, IsApplyingAtEachMoment, IsDoneOnDisk}
use Rattle.store_changes.specs.OnDisk.{HasCarried, IsOldOrCarried, IsTaking, IsCarrying, HasDone, IsApplying}
use Rattle.store_changes.specs.laws.Frame.{held_is, same_tables}
use Rattle.store_changes.specs.laws.Changed.{edited_held, placed_held}
use Rattle.store.proofs.Asked.{not_less}
use Rattle.store.proofs.StillFits.{fits_halted, fits_unwritten}
use Rattle.store_changes.specs.laws.Synced.{shown_is_synced, own_image}
use Rattle.store.proofs.Roomed.{carried_out, refused_out}
use Rattle.store.proofs.Spares.{last_moment, spares_in, exports_on}
use Rattle.store.proofs.Carried.{new_after, is_accepted, refused_goes}

-- ---- a command that asks for the change

module _ (size : ℕ) (used : Run → Type 0) (k : Commit) (c : PlainCatalogue) (before : Disk) (change : PlainChange) (command : PlainCommand) (decided : IsDecided true (shown_image before) c command (Ok change)) where
  has_done : (image : Image) → HasCarried size used k c change image → HasDone size used k c before command image
  has_done image is = record { change = change; decides = decided; places = is.places; text = is.text; takes = is.takes; stands = is.stands; holds = is.holds }

  applying : (d : Disk) → IsCarrying size used k c before change d → IsApplying size used k c before command d
  applying d is = record {
    touches = ⊎_elim (λ (same : d ≡ before). inl same)
        (λ (t : IsTaking size used k c before change d). inr (record { change = change; decides = decided; runs = t.runs; takes = t.takes; outside = t.outside })) is.touches;
    leaves = λ image may.
        let either = is.leaves image may in
        record {
          which = ⊎_elim (λ (stood : standing stored_reading size image ≡ rules k c). inl stood) (λ (does : HasCarried size used k c change image). inr (has_done image does)) either.which;
          kept = either.kept;
        };
  }

module _ {D : Type 0} {g : Ghosts D} (size : D → ℕ) (story : D → Story) (old new : Store D g) (change : PlainChange) (command : PlainCommand)
    (decided : IsDecided true (shown_image (now (story old.device))) (listed_in old) command (Ok change)) where
  pub command_writes : IsCarryingAtEachMoment size story old change new → IsApplyingAtEachMoment size story old command new
  command_writes moments = weaken (applying (size old.device) (IsUsedIn old.opened.map.entries) old.opened.commit (listed_in old) (now (story old.device)) change command decided) moments

  pub command_written : IsCarriedOnDisk size story old change new → IsDoneOnDisk size story old command new
  command_written is = record {
    stands = is.stands;
    holds = has_done (size old.device) (IsUsedIn old.opened.map.entries) old.opened.commit (listed_in old) (now (story old.device)) change command decided (synced_image (now (story new.device))) is.holds;
  }

-- ---- what its images hold

module _ (size : ℕ) (used : Run → Type 0) (k : Commit) (c : PlainCatalogue) (before : Disk) (change : PlainChange) (t u : Tables)
    (catalogue : IsCatalogue c) (own : IsOfCatalogue c change.edit) (held : tables_held (synced_image before) c ≡ Some t) (makes : MakesOf t change u) (image : Image) where
  still_held : ((n : ℕ) → InSome (used_runs stored_reading k c) n → image n ≡ (before.at n).synced) → tables_held image c ≡ Some t
  still_held kept = same_tables (synced_image before) image c catalogue.entries (λ n within. kept n (inr within)) ∙ held

  pub made_held : ((n : ℕ) → InSome (used_runs stored_reading k c) n → image n ≡ (before.at n).synced) → (is : HasCarried size used k c change image)
      → tables_held image (placed k.version c change is.places) ≡ Some u
  made_held kept is =
      placed_held image k.version c change is.places ∙ edited_held image c change t u (placed_segments k.version is.places change.streams change.counts) catalogue own (still_held kept) makes is.holds

  pub either_held : IsOldOrCarried size used k c before change image → (held_by size image ≡ holds t) ⊎ (held_by size image ≡ holds u)
  either_held is = by_which is.which
    where
      by_which : (standing stored_reading size image ≡ rules k c) ⊎ HasCarried size used k c change image → (held_by size image ≡ holds t) ⊎ (held_by size image ≡ holds u)
      by_which (inl stood) = inl (held_is size image k c stood ∙ ap held_tables (still_held is.kept))
      by_which (inr does) =
          inr (held_is size image (commit_placed k c change does.text) (placed k.version c change does.places) does.stands ∙ ap held_tables (made_held is.kept does))

-- ---- the machine goes on

memory_works : refusals.OutOfMemory ≢ refusals.Device
memory_works is = cc is

epochs_work : refusals.TooMany limits.Epochs ≢ refusals.Device
epochs_work is = cc is

segments_work : refusals.TooMany limits.Segments ≢ refusals.Device
segments_work is = cc is

room_works : (n : ℕ) → refusals.NoRoom n ≢ refusals.Device
room_works n is = cc is

module _ {D : Type 0} {g : Ghosts D} (size : D → ℕ) (story : D → Story) (failed : D → ℕ) (base : Tables) (m : Machine) (old new : Store D g) (fits : StoreFits size story base m old) (on : m.phase ≡ running)
    (sized : size new.device ≡ size old.device) (book : book_of new ≡ book_of old) (exportable : AreExportable (size old.device) (book_of old).exports) (change : PlainChange) (c : PlainCommand) (u : Tables)
    (makes : verdict (tables_now (setting_of (size old.device) base) m) c ≡ Ok u) (mk : MakesOf (tables_now (setting_of (size old.device) base) m) change u)
    (decided : IsDecided true (shown_image (now (story old.device))) (listed_in old) c (Ok change)) where
  abbrev s : Setting
  s = setting_of (size old.device) base

  sound : IsSound size story base m old
  sound = fits.sound on

  catalogue : IsCatalogue (listed_in old)
  catalogue = catalogue_is (listed_in old) old.opened.catalogue.list.kept

  own : IsOfCatalogue (listed_in old) change.edit
  own = of_decided (shown_image (now (story old.device))) (listed_in old) c change decided

  each : (image : Image) → IsOldOrCarried (size old.device) (IsUsedIn old.opened.map.entries) old.opened.commit (listed_in old) (now (story old.device)) change image → Allows s (meanwhile (apply_call c) m true) image
  unfolding Allows held_by
  each image is =
      ⊎_elim (λ (was : held_by (size old.device) image ≡ holds (after base m.settled)). inl was)
      (λ (will : held_by (size old.device) image ≡ holds u). inr (inl (will ∙ ap holds (new_after (size old.device) base m c u on makes))))
      (either_held (size old.device) (IsUsedIn old.opened.map.entries) old.opened.commit (listed_in old) (now (story old.device)) change (after base m.settled) u catalogue own sound.tables mk image is)

  at_moment : (d : Disk) → IsCarrying (size old.device) (IsUsedIn old.opened.map.entries) old.opened.commit (listed_in old) (now (story old.device)) change d
      → LeavesOnly (Allows s (meanwhile (apply_call c) m (has_written (now (story old.device)) d))) d
  at_moment d p = by_writes (has_written (now (story old.device)) d) refl
    where
      by_writes : (wrote : Bool) → has_written (now (story old.device)) d ≡ wrote → LeavesOnly (Allows s (meanwhile (apply_call c) m wrote)) d
      by_writes true is = λ image may. each image (p.leaves image may)
      by_writes false is =
          ⊎_elim (λ (same : d ≡ now (story old.device)). subst (λ (x : Disk). LeavesOnly (Allows s m) x) (sym same) fits.device.allows)
          (λ (begun : (now (story old.device)).writes < d.writes). let yes' = lt-ltb (now (story old.device)).writes d.writes begun in absurd (cc (yes', is))) p.begun

  halted_allows : (wrote : Bool) (d : Disk) → LeavesOnly (Allows s (meanwhile (apply_call c) m wrote)) d → LeavesOnly (Allows s (halt (apply_call c) wrote m)) d
  unfolding Allows
  halted_allows true d leaves = leaves
  halted_allows false d leaves = leaves

  moments_in : IsCarryingAtEachMoment size story old change new → Grows (λ d. LeavesOnly (Allows s (meanwhile (apply_call c) m (has_written (now (story old.device)) d))) d) (story old.device) (story new.device)
  moments_in carries = weaken at_moment carries

  -- it was done
  done_on : EndsAs size old (Ok change) (Ok tt) new → failed new.device ≡ failed old.device → new.halted ≡ false → IsCarryingAtEachMoment size story old change new → IsCarriedOnDisk size story old change new
      → GoesOn size story failed base m (apply_call c) done old new
  unfolding Step Allows held_by
  done_on carried count quiet carries does =
      let s1 = now (story new.device) in
      let image = synced_image s1 in
      let is = (last_moment size story base m old new sound change carries).leaves image (own_image s1) in
      let tables : tables_held image (listed_in new) ≡ Some u =
      ap (tables_held image) listed ∙ made_held (size old.device) (IsUsedIn old.opened.map.entries) old.opened.commit (listed_in old) (now (story old.device)) change (after base m.settled) u catalogue own sound.tables mk image is.kept does.holds in
      let becomes = new_after (size old.device) base m c u on makes in
      let held : held_by (size old.device) image ≡ holds u =
      held_is (size old.device) image new.opened.commit (listed_in new) stands ∙ ap held_tables tables in
      let settles : LeavesOnly (Allows s (settle c m)) s1 = λ i may. inl (ap (held_by (size old.device)) (only_image s1 i does.stands.quiet.pending may) ∙ held ∙ ap holds becomes) in
      record {
        next = settle c m;
        same = sized;
        goes = record {
          step = (on, is_accepted (size old.device) base m c u on makes, lt-ltb (now (story old.device)).writes s1.writes does.begun, refl);
          moments = moments_in carries;
          settles = settles;
          quiet = λ no device. absurd (cc no);
          counts = count;
          tells = tt;
          room = carried_out size story base m old sound (CommandDecides (now (story old.device)) c) change decided (Ok tt) new.opened.commit (listed_in new) s1
              (ap (standing stored_reading (size old.device)) (shown_is_synced s1 does.stands.quiet.shown) ∙ stands) carried;
          spares = λ needs. spares_in size story base m old new sound book exportable change carries;
          keeps = tt;
        };
        fits = record {
          phase = sym (ap (λ (b : Bool). if b then halted else running) quiet);
          started = refl;
          device = record {
            in_limits = subst (λ (n : ℕ). is_size n ≡ true) (sym sized) fits.device.in_limits;
            allows = subst (λ (n : ℕ). LeavesOnly (Allows (setting_of n base) (settle c m)) s1) (sym sized) settles;
            fresh = λ no. absurd (true≢false no);
          };
          sound = λ again. record { stands = does.stands; tables = tables ∙ ap Some becomes; uses = new.uses; none = refl; exports = exports_on size story base m old new sound book exportable change carries; next = ap (λ (b : PlainBook). b.next) book ∙ sound.next };
        };
      }
    where
      stands : standing stored_reading (size old.device) (synced_image (now (story new.device))) ≡ rules new.opened.commit (listed_in new)
      stands = ap (λ (n : ℕ). standing stored_reading n (synced_image (now (story new.device)))) (sym sized) ∙ does.stands.found

      same_rules : rules new.opened.commit (listed_in new) ≡ rules (commit_placed old.opened.commit (listed_in old) change does.holds.text) (placed old.opened.commit.version (listed_in old) change does.holds.places)
      same_rules = sym stands ∙ does.holds.stands

      listed : listed_in new ≡ placed old.opened.commit.version (listed_in old) change does.holds.places
      listed = let is = same_rules in cc is

  -- the device failed
  failed_on : failed new.device ≡ min (failed old.device + 1) (2 ^ 64 - 1) → new.halted ≡ true → IsCarryingAtEachMoment size story old change new → GoesOn size story failed base m (apply_call c) (refused refusals.Device) old new
  unfolding Step
  failed_on count stopped carries =
      let s0 = now (story old.device) in
      let s1 = now (story new.device) in
      let wrote = has_written s0 s1 in
      let next = halt (apply_call c) wrote m in
      let start : LeavesOnly (Allows s (meanwhile (apply_call c) m (has_written s0 s0))) s0 =
      subst (λ (b : Bool). LeavesOnly (Allows s (meanwhile (apply_call c) m b)) s0) (sym (not_less s0.writes)) fits.device.allows in
      let settles : LeavesOnly (Allows s next) s1 =
      halted_allows wrote s1 (now_has {P = λ d. LeavesOnly (Allows s (meanwhile (apply_call c) m (has_written s0 d))) d} start (moments_in carries)) in
      record {
        next = next;
        same = sized;
        goes = record {
          step = (on, refl);
          moments = moments_in carries;
          settles = settles;
          quiet = λ no device. absurd (cc device);
          counts = count;
          tells = tt;
          room = tt;
          spares = λ needs. spares_in size story base m old new sound book exportable change carries;
          keeps = tt;
        };
        fits = fits_halted size story base m old new fits sized (apply_call c) wrote stopped settles;
      }

  -- it was refused before anything was written
  refused_on : (r : Refusal) → IsCarried (size old.device) (IsUsedIn old.opened.map.entries) old.opened.commit (listed_in old) change (Err r) old.opened.commit (listed_in old) → r ≢ refusals.Device
      → failed new.device ≡ failed old.device → new.halted ≡ false → IsKept old new → story new.device ≡ story old.device → GoesOn size story failed base m (apply_call c) (refused r) old new
  refused_on r carried other count quiet kept same =
      let stood = refused_goes (size old.device) base m c u on makes old.opened.commit (listed_in old) (IsUsedIn old.opened.map.entries) change (story old.device) (failed old.device) r fits.device.allows carried other
      (refused_out size story base m old sound (CommandDecides (now (story old.device)) c) change decided r carried) in
      let disk : now (story new.device) ≡ now (story old.device) = ap now same in
      record {
        next = m;
        same = sized;
        goes = subst (λ (t : Story). Goes s m (apply_call c) (refused r) (story old.device) t (failed old.device) (failed new.device) m) (sym same)
            (subst (λ (n : ℕ). Goes s m (apply_call c) (refused r) (story old.device) (story old.device) (failed old.device) n m) (sym count) stood);
        fits = fits_unwritten size story base m old new fits sized m.exports m.next_id on quiet kept.0 kept.1 disk
            (subst (λ (b : PlainBook). ExportsFit (synced_image (now (story old.device))) b.exports m.exports) (sym book) sound.exports) (ap (λ (b : PlainBook). b.next) book ∙ sound.next);
      }

  -- however it ended
  pub carried_goes : (result : Result (Unit {0}) Refusal) → failed new.device ≡ counted (ended result) (failed old.device) → EndsAs size old (Ok change) result new → (new.halted ≡ true) ↔ (result ≡ Err refusals.Device)
      → IfErr result (λ e. IsKept old new) → IfErr result (λ e. e ≢ refusals.Device → story new.device ≡ story old.device) → IsCarryingAtEachMoment size story old change new → OnOk result (IsCarriedOnDisk size story old change new)
      → GoesOn size story failed base m (apply_call c) (ended result) old new
  carried_goes (Ok unit) count carried halts kept quiet carries does = done_on carried count (false_from_ne_true new.halted (λ is. cc (halts.0 is))) carries does
  carried_goes (Err refusals.Device) count carried halts kept quiet carries does = failed_on count (halts.1 refl) carries
  carried_goes (Err (refusals.TooMany limits.Epochs)) count carried halts kept quiet carries does = refused_on (refusals.TooMany limits.Epochs) carried epochs_work count (false_from_ne_true new.halted (λ is. cc (halts.0 is))) kept (quiet epochs_work)
  carried_goes (Err (refusals.TooMany limits.Segments)) count carried halts kept quiet carries does = refused_on (refusals.TooMany limits.Segments) carried segments_work count (false_from_ne_true new.halted (λ is. cc (halts.0 is))) kept (quiet segments_work)
  carried_goes (Err (refusals.NoRoom n)) count carried halts kept quiet carries does = refused_on (refusals.NoRoom n) carried (room_works n) count (false_from_ne_true new.halted (λ is. cc (halts.0 is))) kept (quiet (room_works n))
  carried_goes (Err refusals.OutOfMemory) count carried halts kept quiet carries does = refused_on refusals.OutOfMemory carried memory_works count (false_from_ne_true new.halted (λ is. cc (halts.0 is))) kept (quiet memory_works)
  carried_goes (Err _) count carried halts kept quiet carries does = absurd carried
