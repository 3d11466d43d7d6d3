-- A store still fits its machine after a call that wrote nothing, and after its device failed.
use Rattle.std.specs.Prelude.{◌≡◌, ℕ, Bool, true, false, List, if◌then◌else◌}
use Rattle.std.proofs.Common.{sym, ap, ◌∙◌, subst}
use Rattle.std.proofs.lemmas.Bool.{true≢false}
use Rattle.sector_dev.specs.Disk.{Disk, Story, now, synced_image}
use Rattle.sector_dev.specs.declared.device.SectorDevice.{Ghosts}
use Rattle.sector_dev.specs.Time.{LeavesOnly}
use Rattle.catalogue.specs.Entries.{PlainCatalogue}
use Rattle.commit.specs.Standing.{is_size, Stands}
use Rattle.commit.specs.declared.sector.Commit.{Commit}
use Rattle.tables.specs.Tables.{Tables}
use Rattle.pages.specs.Stored.{stored_reading}
use Rattle.store_runs.specs.Calls.{PlainCall}
use Rattle.store_runs.specs.Held.{tables_held}
use Rattle.store_runs.specs.Machine.{Export, Machine, running, halted, Allows, halt}
use Rattle.store.specs.declared.store.Store.{Store}
use Rattle.store.specs.Fits.{commit_of, book_of, setting_of, listed_in, ExportsFit, StoreFits}

module _ {D : Type 0} {g : Ghosts D} (size : D → ℕ) (story : D → Story) (base : Tables) (m : Machine) (old new : Store D g) (fits : StoreFits size story base m old) (sized : size new.device ≡ size old.device) where
  -- its device failed
  pub fits_halted : (call : PlainCall) (wrote : Bool) → new.halted ≡ true → LeavesOnly (Allows (setting_of (size old.device) base) (halt call wrote m)) (now (story new.device)) → StoreFits size story base (halt call wrote m) new
  fits_halted call wrote stopped settles = record {
    phase = ap (λ (b : Bool). if b then halted else running) (sym stopped);
    started = fits.started;
    device = record {
      in_limits = subst (λ (n : ℕ). is_size n ≡ true) (sym sized) fits.device.in_limits;
      allows = subst (λ (n : ℕ). LeavesOnly (Allows (setting_of n base) (halt call wrote m)) (now (story new.device))) (sym sized) settles;
      fresh = λ no. absurd (true≢false (sym fits.started ∙ no));
    };
    sound = λ again. absurd (cc again);
  }

  abbrev changed : List Export → ℕ → Machine
  changed exports next_id = record m { exports = exports; next_id = next_id }

  -- nothing was written, and its commit and tables are as they were; its book has these exports
  pub fits_unwritten : (exports : List Export) (next_id : ℕ) → m.phase ≡ running → new.halted ≡ false → commit_of new ≡ commit_of old → listed_in new ≡ listed_in old → now (story new.device) ≡ now (story old.device)
      → ExportsFit (synced_image (now (story old.device))) (book_of new).exports exports → (book_of new).next ≡ next_id → StoreFits size story base (changed exports next_id) new
  unfolding Allows
  fits_unwritten exports next_id on works commit listed disk fit next =
      let sound = fits.sound on in
      let stood : LeavesOnly (Allows (setting_of (size old.device) base) m) (now (story new.device)) = subst (λ (d : Disk). LeavesOnly (Allows (setting_of (size old.device) base) m) d) (sym disk) fits.device.allows in
      let allows : LeavesOnly (Allows (setting_of (size old.device) base) (changed exports next_id)) (now (story new.device)) = λ image may. stood image may in
      record {
        phase = on ∙ sym (ap (λ (b : Bool). if b then halted else running) works);
        started = fits.started;
        device = record {
          in_limits = subst (λ (n : ℕ). is_size n ≡ true) (sym sized) fits.device.in_limits;
          allows = subst (λ (n : ℕ). LeavesOnly (Allows (setting_of n base) (changed exports next_id)) (now (story new.device))) (sym sized) allows;
          fresh = λ no. absurd (true≢false (sym fits.started ∙ no));
        };
        sound = λ again. record {
          stands =
              subst (λ (n : ℕ). Stands stored_reading n (now (story new.device)) new.opened.commit (listed_in new)) (sym sized)
              (subst (λ (d : Disk). Stands stored_reading (size old.device) d new.opened.commit (listed_in new)) (sym disk)
              (subst (λ (k : Commit). Stands stored_reading (size old.device) (now (story old.device)) k (listed_in new)) (sym commit)
              (subst (λ (c : PlainCatalogue). Stands stored_reading (size old.device) (now (story old.device)) old.opened.commit c) (sym listed) sound.stands)));
          tables = (λ i. tables_held (synced_image (disk i)) (listed i)) ∙ sound.tables;
          uses = new.uses;
          none = sound.none;
          exports = subst (λ (d : Disk). ExportsFit (synced_image d) (book_of new).exports exports) (sym disk) fit;
          next = next;
        };
      }
