-- Each table of a store that lies on its disk stays at each moment of a step of a compaction and of an upgrade, also beside one that can't be read.
use Rattle.std.specs.Prelude.{◌≡◌, ◌⊎◌, ℕ, Bool, true, List}
use Rattle.std.proofs.Common.{inl, inr, sym, ap, ◌∙◌, subst}
use Rattle.sector_dev.specs.Disk.{Disk, Story, Image, now, synced_image, shown_image, MayLeave}
use Rattle.sector_dev.specs.Time.{OnlyReads}
use Rattle.sector_dev.specs.declared.device.SectorDevice.{Ghosts}
use Rattle.sector_dev.specs.laws.Time.{weaken}
use Rattle.sector_dev.specs.laws.Crash.{only_image}
use Rattle.segments.specs.Usages.{IsUsedIn}
use Rattle.catalogue.specs.declared.entry.Segment.{Segment}
use Rattle.catalogue.specs.Entries.{IsCatalogue, runs_of}
use Rattle.catalogue.specs.laws.Kept.{catalogue_is}
use Rattle.commit.specs.Standing.{rules, standing, used_runs, InSome}
use Rattle.pages.specs.Stored.{stored_reading}
use Rattle.store_runs.specs.Held.{each_held}
use Rattle.store_runs.specs.Changes.{PlainChange, edited, placed_segments, HoldsStreams}
use Rattle.store_runs.specs.Carrying.{placed, commit_placed}
use Rattle.store_changes.specs.OnDisk.{HasCarried, IsOldOrCarried, IsCarrying}
use Rattle.store_changes.specs.LawsBelow.{LawsBelow}
use Rattle.store_changes.specs.laws.Frame.{same_each}
use Rattle.store_changes.specs.laws.Changed.{placed_each}
use Rattle.store_changes.specs.laws.StepChanges.{step_keeps}
use Rattle.store_changes.specs.laws.Synced.{shown_is_synced}
use Rattle.store.specs.declared.store.Store.{Store}
use Rattle.store.specs.Fits.{listed_in, IsOnDisk}
use Rattle.store.specs.Applying.{IsCarryingAtEachMoment, HoldsSameTables, KeepsEachTable}
use Rattle.store.specs.Compacting.{IsSteppingAtEachMoment}
use Rattle.store.specs.Upgrading.{IsUpgradingAtEachMoment}
use Rattle.store.proofs.UpgradeGoes.{upgrade_keeps}

module _ {D : Type 0} {g : Ghosts D} (size : D → ℕ) (story : D → Story) (old new : Store D g) (stands : IsOnDisk size story old) where
  abbrev before : Disk
  before = now (story old.device)

  catalogue : IsCatalogue (listed_in old)
  catalogue = catalogue_is (listed_in old) old.opened.catalogue.list.kept

  -- calls that only read
  pub each_read : OnlyReads (story old.device) (story new.device) → KeepsEachTable size story old new
  each_read reads =
      weaken (λ (d : Disk) (is : d ≡ before) (image : Image) (may : MayLeave d image).
      let one : image ≡ synced_image before = only_image before image stands.quiet.pending (subst (λ (x : Disk). MayLeave x image) is may) in
      record {
        commit = old.opened.commit;
        catalogue = listed_in old;
        stands = ap (standing stored_reading (size old.device)) one ∙ stands.found;
        same = ap (λ (i : Image). each_held i (listed_in old)) one;
      }) reads

  -- a change that keeps each table
  module _ (change : PlainChange) (keeps : (image : Image) → ((n : ℕ) → InSome (runs_of (listed_in old)) n → image n ≡ synced_image before n) → (others : List Segment)
      → HoldsStreams image others change.streams change.counts → each_held image (edited (listed_in old) change.edit others) ≡ each_held image (listed_in old)) where
    still : (image : Image) → ((n : ℕ) → InSome (used_runs stored_reading old.opened.commit (listed_in old)) n → image n ≡ (before.at n).synced)
        → each_held image (listed_in old) ≡ each_held (synced_image before) (listed_in old)
    still image kept = same_each (synced_image before) image (listed_in old) catalogue.entries (λ n within. kept n (inr within))

    holds_same : (image : Image) → IsOldOrCarried (size old.device) (IsUsedIn old.opened.map.entries) old.opened.commit (listed_in old) before change image
        → HoldsSameTables (size old.device) (synced_image before) (listed_in old) image
    holds_same image is = by_which is.which
      where
        by_which : (standing stored_reading (size old.device) image ≡ rules old.opened.commit (listed_in old))
            ⊎ HasCarried (size old.device) (IsUsedIn old.opened.map.entries) old.opened.commit (listed_in old) change image
            → HoldsSameTables (size old.device) (synced_image before) (listed_in old) image
        by_which (inl stood) = record { commit = old.opened.commit; catalogue = listed_in old; stands = stood; same = still image is.kept }
        by_which (inr does) = record {
          commit = commit_placed old.opened.commit (listed_in old) change does.text;
          catalogue = placed old.opened.commit.version (listed_in old) change does.places;
          stands = does.stands;
          same = placed_each image old.opened.commit.version (listed_in old) change does.places
              ∙ keeps image (λ n within. is.kept n (inr within)) (placed_segments old.opened.commit.version does.places change.streams change.counts) does.holds
              ∙ still image is.kept;
        }

    pub each_kept : IsCarryingAtEachMoment size story old change new → KeepsEachTable size story old new
    each_kept carries =
        weaken (λ (d : Disk) (p : IsCarrying (size old.device) (IsUsedIn old.opened.map.entries) old.opened.commit (listed_in old) before change d) (image : Image) (may : MayLeave d image).
        holds_same image (p.leaves image may)) carries

  module _ (tells : Bool) (told : tells ≡ true) where
    -- the sectors of the catalogue are as reads showed
    as_shown : (image : Image) → ((n : ℕ) → InSome (runs_of (listed_in old)) n → image n ≡ synced_image before n) → (n : ℕ) → InSome (runs_of (listed_in old)) n → image n ≡ shown_image before n
    as_shown image same n within = same n within ∙ ap (λ (i : Image). i n) (sym (shown_is_synced before stands.quiet.shown))

    pub step_each : LawsBelow → IsSteppingAtEachMoment size story tells old new → KeepsEachTable size story old new
    step_each laws (inl reads) = each_read reads
    step_each laws (inr (change, (done, decides), carries)) =
        each_kept change
        (λ image same others holds. (step_keeps laws (listed_in old) catalogue tells told (shown_image before) image (as_shown image same) (size old.device) (IsUsedIn old.opened.map.entries) done change decides others holds).0) carries

    pub upgrade_each : IsUpgradingAtEachMoment size story tells old new → KeepsEachTable size story old new
    upgrade_each (inl reads) = each_read reads
    upgrade_each (inr (change, decides, carries)) =
        each_kept change
        (λ image same others holds. (upgrade_keeps tells (shown_image before) (listed_in old) change decides told catalogue image (as_shown image same) others holds).0) carries
