-- How commands are decided and carried out, and the state after each call of an open store.
use Rattle.std.specs.Prelude.{◌≡◌, ◌⊎◌, ◌<◌, ℕ, Bool, List, Option, None, Some, Result, Ok, Err}
use Rattle.std.specs.List.{AllPass}
use Rattle.sector_dev.specs.Disk.{Image, Story, now, shown_image, synced_image}
use Rattle.sector_dev.specs.Time.{Grows, LeavesOnly, OnlyReads}
use Rattle.sector_dev.specs.declared.device.SectorDevice.{Ghosts}
use Rattle.segments.specs.Usages.{IsUsedIn, SameUsages}
use Rattle.cells.specs.Cell.{Cell}
use Rattle.cells.specs.Row.{is_row}
use Rattle.cells.specs.Weight.{table_weight}
use Rattle.cells.specs.declared.limits.TheConstants.{MAX_TABLE_WEIGHT}
use Rattle.catalogue.specs.Entries.{PlainEntry, PlainCatalogue}
use Rattle.commit.specs.declared.sector.Commit.{Commit}
use Rattle.commit.specs.Standing.{rules, standing}
use Rattle.pages.specs.Stored.{stored_reading}
use Rattle.tables.specs.declared.refusal.Refusal.{Refusal}
use Rattle.tables.specs.Tables.{Tables}
use Rattle.tables.specs.Commands.{PlainCommand}
use Rattle.store.specs.declared.store.Store.{Store}
use Rattle.store_runs.specs.Calls.{PlainCall, PlainReply}
use Rattle.store_runs.specs.Machine.{Machine}
use Rattle.store_runs.specs.Runs.{Goes}
use Rattle.store_runs.specs.Held.{each_held}
use Rattle.store.specs.Fits.{setting_of, StoreFits, device_of, commit_of, listed_in, IsOnDisk}
use Rattle.store_runs.specs.Deciding.{IsAnswered}
use Rattle.store_runs.specs.Changes.{PlainChange}
use Rattle.store_runs.specs.Carrying.{IsCarried}
use Rattle.store_changes.specs.OnDisk.{HasCarried, HasDone, IsApplying, IsCarrying, IsTaking}

-- how a decision ends on a store: a change is carried out, and a refusal is reported
abbrev pub EndsAs : {D : Type 0} {g : Ghosts D} → (size : D → ℕ) → (old : Store D g) → Result PlainChange Refusal → Result (Unit {0}) Refusal → (new : Store D g) → Type 0
EndsAs size old (Ok change) result new =
    IsCarried (size (device_of old)) (IsUsedIn old.opened.map.entries) (commit_of old) (listed_in old) change result (commit_of new) (listed_in new)
EndsAs size old (Err r) result new = result ≡ Err r

-- a command of a store that is not halted: the decision by its catalogue and by what reads show, and how it ends
pub record IsApplied {D : Type 0} {g : Ghosts D} (size : D → ℕ) (story : D → Story) (tells : Bool) (old : Store D g) (command : PlainCommand) (result : Result (Unit {0}) Refusal) (new : Store D g) : Type 0 where
  pub decision : Result PlainChange Refusal
  pub decides : IsAnswered tells (shown_image (now (story (device_of old)))) (listed_in old) command decision
  pub ends : EndsAs size old decision result new

-- a refusal leaves the commit, the catalogue and the use of each run as they were
abbrev pub IsKept : {D : Type 0} {g : Ghosts D} → (old new : Store D g) → Type 0
IsKept old new = (commit_of new ≡ commit_of old) × (listed_in new ≡ listed_in old) × SameUsages old.opened.map.entries new.opened.map.entries

-- rows of which each fits the table of this entry, if there is one, but which are together too heavy for any table
abbrev pub AreTooHeavy : Option PlainEntry → List (List Cell) → Type 0
AreTooHeavy None rows = Unit {0}
AreTooHeavy (Some e) rows = AllPass (is_row e.schema) rows × (MAX_TABLE_WEIGHT < table_weight e.schema rows)

-- ---- what lies on the disk

-- at each moment of a change of a store that lies on its disk
abbrev pub IsCarryingAtEachMoment : {D : Type 0} {g : Ghosts D} → (size : D → ℕ) → (story : D → Story) → (old : Store D g) → PlainChange → (new : Store D g) → Type 0
IsCarryingAtEachMoment size story old change new =
    Grows (IsCarrying (size (device_of old)) (IsUsedIn old.opened.map.entries) (commit_of old) (listed_in old) (now (story (device_of old))) change)
    (story (device_of old)) (story (device_of new))

-- after a successful one
pub record IsCarriedOnDisk {D : Type 0} {g : Ghosts D} (size : D → ℕ) (story : D → Story) (old : Store D g) (change : PlainChange) (new : Store D g) : Type 0 where
  pub stands : IsOnDisk size story new
  pub begun : (now (story (device_of old))).writes < (now (story (device_of new))).writes
  pub takes : IsTaking (size (device_of old)) (IsUsedIn old.opened.map.entries) (commit_of old) (listed_in old) (now (story (device_of old))) change (now (story (device_of new)))
  pub holds : HasCarried (size (device_of old)) (IsUsedIn old.opened.map.entries) (commit_of old) (listed_in old) change (synced_image (now (story (device_of new))))

-- at each moment of a call of a store that lies on its disk: it only reads, or it carries out a change for which this holds
abbrev pub IsChangingAtEachMoment : {D : Type 0} {g : Ghosts D} → (size : D → ℕ) → (story : D → Story) → (old : Store D g) → (PlainChange → Type 0)
    → (new : Store D g) → Type 0
IsChangingAtEachMoment size story old Decides new =
    OnlyReads (story (device_of old)) (story (device_of new)) ⊎ ((change : PlainChange) × Decides change × IsCarryingAtEachMoment size story old change new)

-- after it has carried one out
abbrev pub IsChangedOnDisk : {D : Type 0} {g : Ghosts D} → (size : D → ℕ) → (story : D → Story) → (old : Store D g) → (PlainChange → Type 0) → (new : Store D g) → Type 0
IsChangedOnDisk size story old Decides new = (change : PlainChange) × Decides change × IsCarriedOnDisk size story old change new

-- an image holds of each table what another image holds of this catalogue: its name, its schema and its rows one by one, also of one that can't be read
pub record HoldsSameTables (size : ℕ) (before : Image) (c : PlainCatalogue) (image : Image) : Type 0 where
  pub commit : Commit
  pub catalogue : PlainCatalogue
  pub stands : standing stored_reading size image ≡ rules commit catalogue
  pub same : each_held image catalogue ≡ each_held before c

-- at each moment of a call of a store that lies on its disk a stop leaves each of its tables as it was
abbrev pub KeepsEachTable : {D : Type 0} {g : Ghosts D} → (size : D → ℕ) → (story : D → Story) → (old new : Store D g) → Type 0
KeepsEachTable size story old new =
    Grows (LeavesOnly (HoldsSameTables (size (device_of old)) (synced_image (now (story (device_of old)))) (listed_in old))) (story (device_of old)) (story (device_of new))

-- at each moment of a command of a store that lies on its disk
abbrev pub IsApplyingAtEachMoment : {D : Type 0} {g : Ghosts D} → (size : D → ℕ) → (story : D → Story) → (old : Store D g) → PlainCommand
    → (new : Store D g) → Type 0
IsApplyingAtEachMoment size story old command new =
    Grows (IsApplying (size (device_of old)) (IsUsedIn old.opened.map.entries) (commit_of old) (listed_in old) (now (story (device_of old))) command)
    (story (device_of old)) (story (device_of new))

-- after a successful one
pub record IsDoneOnDisk {D : Type 0} {g : Ghosts D} (size : D → ℕ) (story : D → Story) (old : Store D g) (command : PlainCommand)
    (new : Store D g) : Type 0 where
  pub stands : IsOnDisk size story new
  pub holds : HasDone (size (device_of old)) (IsUsedIn old.opened.map.entries) (commit_of old) (listed_in old) (now (story (device_of old))) command (synced_image (now (story (device_of new))))

-- ---- after a call

-- a call of an open store: the machine continues as another one, and the store stands for that one
pub record GoesOn {D : Type 0} {g : Ghosts D} (size : D → ℕ) (story : D → Story) (failed : D → ℕ) (base : Tables) (m : Machine) (call : PlainCall) (reply : PlainReply) (old new : Store D g) : Type 0 where
  pub next : Machine
  pub same : size new.device ≡ size old.device
  pub goes : Goes (setting_of (size old.device) base) m call reply (story old.device) (story new.device) (failed old.device) (failed new.device) next
  pub fits : StoreFits size story base next new
