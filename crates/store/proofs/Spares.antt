-- What exports keep stays through a change, at each moment of it.
use Rattle.std.specs.Prelude.{◌≡◌, ℕ, List, refl}
use Rattle.std.proofs.Common.{inl, ⊎_elim, sym, ap, ◌∙◌, subst, arith}
use Rattle.sector_dev.specs.Disk.{Sector, Disk, Story, Image, now, synced_image}
use Rattle.sector_dev.specs.declared.device.SectorDevice.{Ghosts}
use Rattle.sector_dev.specs.Time.{Grows}
use Rattle.sector_dev.specs.laws.Time.{weaken, now_has}
use Rattle.sector_dev.specs.laws.Crash.{only_image}
use Rattle.segments.specs.declared.run.Run.{Run}
use Rattle.segments.specs.Usages.{IsUsedIn}
use Rattle.commit.specs.Standing.{standing, used_runs, InSome}
use Rattle.export_book.specs.Book.{PlainBook, runs_kept}
use Rattle.tables.specs.Tables.{Tables}
use Rattle.store.specs.declared.store.Store.{Store}
use Rattle.store_runs.specs.Machine.{Machine, SparesKept, pinned_by}
use Rattle.pages.specs.Stored.{stored_reading}
use Rattle.store.specs.Fits.{book_of, listed_in, ExportsFit, IsSound}
use Rattle.store.specs.Exported.{AreExportable}
use Rattle.store_runs.specs.Changes.{PlainChange}
use Rattle.store_runs.specs.Carrying.{asked_sizes}
use Rattle.store_changes.specs.OnDisk.{IsTaking, IsCarrying}
use Rattle.store.specs.Applying.{IsCarryingAtEachMoment}
use Rattle.store_changes.specs.laws.Spared.{pins_spared}
use Rattle.store.specs.laws.Exported.{kept_pinned, kept_behind, same_exports}
use Rattle.store.proofs.Roomed.{pins}

module _ {D : Type 0} {g : Ghosts D} (size : D → ℕ) (story : D → Story) (base : Tables) (m : Machine) (old new : Store D g) (sound : IsSound size story base m old) where
  -- at the beginning, and so at the end
  first_moment : (change : PlainChange) → IsCarrying (size old.device) (IsUsedIn old.opened.map.entries) old.opened.commit (listed_in old) (now (story old.device)) change (now (story old.device))
  first_moment change = record {
    touches = inl refl;
    begun = inl refl;
    leaves = λ image may.
        let one : image ≡ synced_image (now (story old.device)) = only_image (now (story old.device)) image sound.stands.quiet.pending may in
        record { which = inl (ap (standing stored_reading (size old.device)) one ∙ sound.stands.found); kept = λ n within. ap (λ (i : Image). i n) one };
  }

  pub last_moment : (change : PlainChange) → IsCarryingAtEachMoment size story old change new → IsCarrying (size old.device) (IsUsedIn old.opened.map.entries) old.opened.commit (listed_in old) (now (story old.device)) change (now (story new.device))
  last_moment change carries = now_has {P = λ d. IsCarrying (size old.device) (IsUsedIn old.opened.map.entries) old.opened.commit (listed_in old) (now (story old.device)) change d} (first_moment change) carries

  module _ (book : book_of new ≡ book_of old) (exportable : AreExportable (size old.device) (book_of old).exports) (change : PlainChange) where
    pinned : runs_kept (book_of old).exports ≡ pinned_by m
    pinned = kept_pinned (synced_image (now (story old.device))) (book_of old).exports m.exports sound.exports

    -- no sector that an export keeps is touched
    spared_at : (d : Disk) → IsCarrying (size old.device) (IsUsedIn old.opened.map.entries) old.opened.commit (listed_in old) (now (story old.device)) change d → SparesKept m (now (story old.device)) d
    spared_at d is n within =
        ⊎_elim (λ (same : d ≡ now (story old.device)). ap (λ (x : Disk). x.at n) same)
        (λ (t : IsTaking (size old.device) (IsUsedIn old.opened.map.entries) old.opened.commit (listed_in old) (now (story old.device)) change d).
        let behind = kept_behind (size old.device) (book_of old).exports n exportable (subst (λ (rs : List Run). InSome rs n) (sym pinned) within) in
        t.outside n
        (pins_spared (size old.device) old.opened.map.entries (used_runs stored_reading old.opened.commit (listed_in old)) (pinned_by m) (asked_sizes old.opened.commit.version (listed_in old) change) t.runs (pins size story base m old sound) t.takes n within)
        (λ at. omega (arith, behind, at)))
        is.touches

    pub spares_in : IsCarryingAtEachMoment size story old change new → Grows (SparesKept m (now (story old.device))) (story old.device) (story new.device)
    spares_in carries = weaken spared_at carries

    pub exports_on : IsCarryingAtEachMoment size story old change new → ExportsFit (synced_image (now (story new.device))) (book_of new).exports m.exports
    exports_on carries =
        subst (λ (b : PlainBook). ExportsFit (synced_image (now (story new.device))) b.exports m.exports) (sym book)
        (same_exports (synced_image (now (story old.device))) (synced_image (now (story new.device))) (size old.device) (book_of old).exports m.exports exportable
        (λ n within. ap (λ (x : Sector). x.synced) (spared_at (now (story new.device)) (last_moment change carries) n (subst (λ (rs : List Run). InSome rs n) pinned within))) sound.exports)
