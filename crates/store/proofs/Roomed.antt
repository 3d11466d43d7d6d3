-- A call ends by what stood on the disk when it began: its commit, its catalogue and the runs that they use.
use Rattle.std.specs.Prelude.{◌≢◌, ◌↔◌, ◌||◌, List, nat_lt, false, refl}
use Rattle.std.proofs.Common.{◌≡◌, ℕ, Bool, true, Result, Err, ap, ◌∙◌, sym, subst, lt-ltb}
use Rattle.sector_dev.specs.Disk.{Disk, Story, now, shown_image, synced_image}
use Rattle.sector_dev.specs.declared.device.SectorDevice.{Ghosts}
use Rattle.segments.specs.declared.run.Run.{Run}
use Rattle.segments.specs.Usages.{is_used, usage_of, IsUsedIn}
use Rattle.catalogue.specs.Entries.{PlainCatalogue}
use Rattle.commit.specs.declared.sector.Commit.{Commit}
use Rattle.commit.specs.Placing.{is_among, times_among, Uses}
use Rattle.commit.specs.laws.Fit.{times_some}
use Rattle.commit.specs.Standing.{rules, standing, used_runs}
use Rattle.tables.specs.declared.refusal.Refusal.{Refusal}
use Rattle.tables.specs.declared.refusal.Refusal.TheVariants as refusals
use Rattle.tables.specs.Refusals.{Origin, by_room, by_device, origin_of}
use Rattle.tables.specs.Tables.{Tables}
use Rattle.store.specs.declared.store.Store.{Store}
use Rattle.store_runs.specs.Machine.{Machine, pinned_by}
use Rattle.export_book.specs.Book.{runs_kept}
use Rattle.store_changes.specs.laws.Edited.{none_listed}
use Rattle.store.specs.laws.Exported.{kept_pinned}
use Rattle.pages.specs.Stored.{stored_reading}
use Rattle.store_runs.specs.Rooms.{RoomFrom}
use Rattle.store.specs.Fits.{book_of, commit_of, listed_in, IsSound}
use Rattle.store.specs.Applying.{IsKept}
use Rattle.store_runs.specs.Changes.{PlainChange}
use Rattle.store_runs.specs.Carrying.{IsCarried, IsInUse, IsCarriedOut, HasNoChange}
use Rattle.store_changes.specs.laws.Synced.{shown_is_synced}

-- it is carried out if there was no room
pub room_by : (o : Origin) (size : ℕ) (pinned : List Run) (before after : Disk) (Decides : Commit → PlainCatalogue → PlainChange → Type 0) (r : Refusal)
    → (o ≡ by_room → IsCarriedOut size pinned before after Decides (Err r)) → RoomFrom o size pinned before after Decides r
room_by by_room size pinned before after Decides r ended = ended refl
room_by _ size pinned before after Decides r ended = tt

-- a run is pinned where it is listed
pins_are : (pinned : List Run) (run : Run) → nat_lt 0 (times_among pinned run) ≡ is_among pinned run
pins_are pinned run = by_case (is_among pinned run) refl
  where
    by_case : (b : Bool) → is_among pinned run ≡ b → nat_lt 0 (times_among pinned run) ≡ b
    by_case true is = lt-ltb 0 (times_among pinned run) (times_some pinned run is)
    by_case false is = ap (nat_lt 0) (none_listed pinned run is)

module _ {D : Type 0} {g : Ghosts D} (store : Store D g) where
  -- the runs in use are those of the commit and its catalogue, and those that exports keep
  same_used : (run : Run) → is_used (usage_of store.opened.map.entries run)
      ≡ (is_among (used_runs stored_reading store.opened.commit (listed_in store)) run || is_among (runs_kept (book_of store).exports) run)
  same_used run =
      ap is_used (store.uses run) ∙ ap (λ (b : Bool). is_among (used_runs stored_reading store.opened.commit (listed_in store)) run || b) (pins_are (runs_kept (book_of store).exports) run)

  pub used_are : (run : Run) → IsUsedIn store.opened.map.entries run ↔ IsInUse store.opened.commit (listed_in store) (runs_kept (book_of store).exports) run
  used_are run = ((λ used. sym (same_used run) ∙ used), (λ named. same_used run ∙ named))

  -- so what holds of the runs that the store takes for used holds of these
  pub in_kept : (P : (Run → Type 0) → Type 0) → P (IsUsedIn store.opened.map.entries) → P (IsInUse store.opened.commit (listed_in store) (runs_kept (book_of store).exports))
  in_kept P holds = subst (λ (used : Run → Bool). P (λ run. used run ≡ true)) (λ i run. same_used run i) holds

module _ {D : Type 0} {g : Ghosts D} (size : D → ℕ) (story : D → Story) (base : Tables) (m : Machine) (store : Store D g) (sound : IsSound size story base m store) where
  same_kept : runs_kept (book_of store).exports ≡ pinned_by m
  same_kept = kept_pinned (synced_image (now (story store.device))) (book_of store).exports m.exports sound.exports

  -- those that the store keeps for exports are those of the machine
  pub pins : Uses store.opened.map.entries (used_runs stored_reading store.opened.commit (listed_in store)) (pinned_by m)
  pins = subst (λ (rs : List Run). Uses store.opened.map.entries (used_runs stored_reading store.opened.commit (listed_in store)) rs) same_kept sound.uses

  -- what holds of the runs that the store takes for used holds of those in use
  pub in_use : (P : (Run → Type 0) → Type 0) → P (IsUsedIn store.opened.map.entries) → P (IsInUse store.opened.commit (listed_in store) (pinned_by m))
  in_use P holds = subst (λ (rs : List Run). P (IsInUse store.opened.commit (listed_in store) rs)) same_kept (in_kept store P holds)

  stood : standing stored_reading (size store.device) (shown_image (now (story store.device))) ≡ rules store.opened.commit (listed_in store)
  stood = ap (standing stored_reading (size store.device)) (shown_is_synced (now (story store.device)) sound.stands.quiet.shown) ∙ sound.stands.found

  -- a call that has nothing to change
  pub unchanged : (P : Commit → PlainCatalogue → Type 0) → P store.opened.commit (listed_in store) → HasNoChange (size store.device) (now (story store.device)) P
  unchanged P is = record { commit = store.opened.commit; catalogue = listed_in store; stood = stood; is = is }

  module _ (Decides : Commit → PlainCatalogue → PlainChange → Type 0) (change : PlainChange) (decided : Decides store.opened.commit (listed_in store) change) where
    pub carried_out : (result : Result (Unit {0}) Refusal) (k' : Commit) (c' : PlainCatalogue) (after : Disk) → standing stored_reading (size store.device) (shown_image after) ≡ rules k' c'
        → IsCarried (size store.device) (IsUsedIn store.opened.map.entries) store.opened.commit (listed_in store) change result k' c' → IsCarriedOut (size store.device) (pinned_by m) (now (story store.device)) after Decides result
    carried_out result k' c' after stands carried = record {
      commit = store.opened.commit;
      catalogue = listed_in store;
      stood = stood;
      change = change;
      decides = decided;
      new_commit = k';
      new_catalogue = c';
      stands = stands;
      carried = in_use (λ used. IsCarried (size store.device) used store.opened.commit (listed_in store) change result k' c') carried;
    }

    -- where nothing has changed
    pub refused_out : (r : Refusal) → IsCarried (size store.device) (IsUsedIn store.opened.map.entries) store.opened.commit (listed_in store) change (Err r) store.opened.commit (listed_in store)
        → IsCarriedOut (size store.device) (pinned_by m) (now (story store.device)) (now (story store.device)) Decides (Err r)
    refused_out r carried = carried_out (Err r) store.opened.commit (listed_in store) (now (story store.device)) stood carried

    -- where nothing has changed unless the device failed
    pub room_refused : (r : Refusal) (new : Store D g) → IsCarried (size store.device) (IsUsedIn store.opened.map.entries) store.opened.commit (listed_in store) change (Err r) (commit_of new) (listed_in new) → IsKept store new
        → (r ≢ refusals.Device → story new.device ≡ story store.device) → RoomFrom (origin_of r) (size store.device) (pinned_by m) (now (story store.device)) (now (story new.device)) Decides r
    room_refused r new carried kept quiet =
        room_by (origin_of r) (size store.device) (pinned_by m) (now (story store.device)) (now (story new.device)) Decides r (λ (room : origin_of r ≡ by_room).
        let same : story new.device ≡ story store.device = quiet (λ (is : r ≡ refusals.Device). let other : by_device ≡ by_room = sym (ap origin_of is) ∙ room in cc other) in
        carried_out (Err r) (commit_of new) (listed_in new) (now (story new.device))
        (ap (λ (s : Story). standing stored_reading (size store.device) (shown_image (now s))) same ∙ stood ∙ (λ i. rules (sym kept.0 i) (sym kept.1 i))) carried)
