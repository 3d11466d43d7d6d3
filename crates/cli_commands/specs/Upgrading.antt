-- What the program answers to an upgrade.
use Rattle.std.specs.Prelude.{◌≡◌, ◌≢◌, ◌↔◌, ℕ, Bool, true, false, Result, Ok, Err, IfOk, IfErr}
use Rattle.sector_dev.specs.Disk.{Story}
use Rattle.sector_dev.specs.Time.{OnlyReads}
use Rattle.sector_dev.specs.declared.device.SectorDevice.{Ghosts}
use Rattle.commit.specs.declared.sector.FormatVersion.TheVariants.{Two}
use Rattle.tables.specs.declared.refusal.Refusal as tables
use Rattle.tables.specs.declared.refusal.Refusal.TheVariants as refusals
use Rattle.store.specs.declared.store.Store as stores
use Rattle.store.specs.declared.upgrading.Upgraded.{Upgraded}
use Rattle.store.specs.declared.upgrading.Upgraded.TheVariants.{Already, Done}
use Rattle.store_runs.specs.Calls.{counted}
use Rattle.store_runs.specs.Held.{each_listed}
use Rattle.store.specs.Applying.{IsKept, KeepsEachTable}
use Rattle.store.specs.Fits.{commit_of, device_of, listed_in, is_halted, book_of, IsOnDisk}
use Rattle.store.specs.Upgrading.{upgrade_ended, HasUpgraded, RefusesUpgrade, IsUpgradingAtEachMoment, HasUpgradedOnDisk}
use Rattle.cli_reports.specs.declared.refusal.Refusal.{Refusal}
use Rattle.cli_commands.specs.Changing.{Follows}

-- the answer without what the upgrade did
abbrev pub as_done : Result Upgraded tables.Refusal → Result (Unit {0}) tables.Refusal
as_done (Ok upgraded) = Ok tt
as_done (Err e) = Err e

-- the store gave an answer for which this holds, and the program's answer follows it
abbrev pub AnsweredUpgrade : (Result Upgraded tables.Refusal → Type 0) → Result (Unit {0}) Refusal → Type 0
AnsweredUpgrade P result = (answer : Result Upgraded tables.Refusal) × P answer × Follows (as_done answer) result

-- how a store answers an upgrade: what `Store::upgrade` promises of every store and every device
pub record AnswersUpgrade {D : Type 0} {g : Ghosts D} (size : D → ℕ) (story : D → Story) (failed : D → ℕ) (tells : Bool) (answer : Result Upgraded tables.Refusal)
    (old new : stores.Store D g) : Type 0 where
  -- the digests are those of the bytes that reads gave, and each refusal has its one reason
  pub upgraded : IfOk answer (λ upgraded. HasUpgraded size story tells old upgraded new)
  pub told : IfErr answer (λ e. RefusesUpgrade size story tells (is_halted old) old e new)
  -- a store that has digests stays as it is
  pub already : is_halted old ≡ false → (commit_of old).version ≡ Two → answer ≡ Ok Already
  -- a refusal keeps the commit, the catalogue and the runs, and has only read, unless the device failed
  pub kept : IfErr answer (λ e. IsKept old new)
  pub reads : IfErr answer (λ e. e ≢ refusals.Device → tells ≡ true → OnlyReads (story (device_of old)) (story (device_of new)))
  -- a halted store reports that it is halted, and a store halts if its device fails
  pub halted : (answer ≡ Err refusals.Halted) ↔ (is_halted old ≡ true)
  pub still : is_halted old ≡ true → new ≡ old
  pub halts : is_halted old ≡ false → (is_halted new ≡ true) ↔ (answer ≡ Err refusals.Device)
  -- on a store that lies on its disk each stop leaves the old state or the upgrade carried out, and each table as it was; once it is answered as done, it is
  pub writes : tells ≡ true → IsOnDisk size story old → IsUpgradingAtEachMoment size story tells old new
  pub written : IfOk answer (λ upgraded. upgraded ≡ Done → tells ≡ true → IsOnDisk size story old → HasUpgradedOnDisk size story tells old new)
  pub each_table : tells ≡ true → IsOnDisk size story old → KeepsEachTable size story old new
  -- on any device the catalogue lists each table as before
  pub listed : each_listed (listed_in new) ≡ each_listed (listed_in old)
  -- the device keeps its size, its failure is counted, and the open exports stay as they are
  pub size_kept : size (device_of new) ≡ size (device_of old)
  pub count : failed (device_of new) ≡ counted (upgrade_ended answer) (failed (device_of old))
  pub book : book_of new ≡ book_of old
