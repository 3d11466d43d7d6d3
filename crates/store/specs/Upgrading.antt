-- An upgrade of a store: the store after it, and its refusals.
use Rattle.std.specs.Prelude.{◌≡◌, ◌⊎◌, ℕ, Bool, true, false, Result, Ok, Err}
use Rattle.sector_dev.specs.Disk.{Story, now, shown_image}
use Rattle.sector_dev.specs.declared.device.SectorDevice.{Ghosts}
use Rattle.commit.specs.declared.sector.FormatVersion.TheVariants.{One, Two}
use Rattle.tables.specs.declared.refusal.Refusal.{Refusal}
use Rattle.tables.specs.declared.refusal.Refusal.TheVariants as refusals
use Rattle.store.specs.declared.upgrading.Upgraded.{Upgraded}
use Rattle.store.specs.declared.upgrading.Upgraded.TheVariants as upgradeds
use Rattle.store.specs.declared.store.Store.{Store}
use Rattle.store_runs.specs.Calls.{PlainReply, done, already, refused}
use Rattle.store_runs.specs.Changes.{PlainChange}
use Rattle.store.specs.Fits.{device_of, commit_of, listed_in}
use Rattle.store.specs.Applying.{EndsAs, IsChangingAtEachMoment, IsChangedOnDisk}
use Rattle.store_runs.specs.Digesting.{IsUpgrade, StopsReading}

-- as a reply
abbrev pub upgrade_reply : Upgraded → PlainReply
upgrade_reply upgradeds.Done = done
upgrade_reply upgradeds.Already = already

abbrev pub upgrade_ended : Result Upgraded Refusal → PlainReply
upgrade_ended (Ok upgraded) = upgrade_reply upgraded
upgrade_ended (Err r) = refused r

-- a successful upgrade: of a store of version 1, or with nothing to do in version 2
abbrev pub HasUpgraded : {D : Type 0} {g : Ghosts D} → (size : D → ℕ) → (story : D → Story) → (tells : Bool) → (old : Store D g) → Upgraded → (new : Store D g) → Type 0
HasUpgraded size story tells old upgradeds.Done new =
    ((commit_of old).version ≡ One)
    × ((change : PlainChange) × IsUpgrade tells (shown_image (now (story (device_of old)))) (listed_in old) change × EndsAs size old (Ok change) (Ok tt) new)
HasUpgraded size story tells old upgradeds.Already new = ((commit_of old).version ≡ Two) × (new ≡ old)

-- the digests were computed, and the upgrade is refused for lack of an epoch, of room or of memory, or by the device
pub record UpgradeRefused {D : Type 0} {g : Ghosts D} (size : D → ℕ) (story : D → Story) (tells : Bool) (old : Store D g) (r : Refusal) (new : Store D g) : Type 0 where
  pub change : PlainChange
  pub upgrade : IsUpgrade tells (shown_image (now (story (device_of old)))) (listed_in old) change
  pub ends : EndsAs size old (Ok change) (Err r) new

-- the refusals of an upgrade: only a store of version 1 is upgraded
abbrev pub RefusesUpgrade : {D : Type 0} {g : Ghosts D} → (size : D → ℕ) → (story : D → Story) → (tells halted : Bool) → (old : Store D g) → Refusal → (new : Store D g) → Type 0
RefusesUpgrade size story tells true old r new = r ≡ refusals.Halted
RefusesUpgrade size story tells false old r new =
    ((commit_of old).version ≡ One)
    × (StopsReading tells (shown_image (now (story (device_of old)))) (listed_in old) r ⊎ UpgradeRefused size story tells old r new)

-- ---- what lies on the disk

-- an upgrade decides on this change, by what reads showed when it began
abbrev pub DecidesUpgrade : {D : Type 0} {g : Ghosts D} → (story : D → Story) → (tells : Bool) → (old : Store D g) → PlainChange → Type 0
DecidesUpgrade story tells old change = IsUpgrade tells (shown_image (now (story (device_of old)))) (listed_in old) change

-- at each moment of an upgrade of a store that lies on its disk, whatever its segments hold: it only reads, or it carries out the change that it decided on
abbrev pub IsUpgradingAtEachMoment : {D : Type 0} {g : Ghosts D} → (size : D → ℕ) → (story : D → Story) → (tells : Bool) → (old new : Store D g) → Type 0
IsUpgradingAtEachMoment size story tells old new = IsChangingAtEachMoment size story old (DecidesUpgrade story tells old) new

-- after a successful one
abbrev pub HasUpgradedOnDisk : {D : Type 0} {g : Ghosts D} → (size : D → ℕ) → (story : D → Story) → (tells : Bool) → (old new : Store D g) → Type 0
HasUpgradedOnDisk size story tells old new = IsChangedOnDisk size story old (DecidesUpgrade story tells old) new
