-- A step of a compaction of a store: the store after it, and its refusals.
use Rattle.std.specs.Prelude.{◌≡◌, ◌⊎◌, ℕ, Bool, true, false, Option, Some, None, Result, Ok, Err}
use Rattle.sector_dev.specs.Disk.{Story, now, shown_image}
use Rattle.sector_dev.specs.declared.device.SectorDevice.{Ghosts}
use Rattle.segments.specs.Usages.{IsUsedIn}
use Rattle.tables.specs.declared.refusal.Refusal.{Refusal}
use Rattle.tables.specs.declared.refusal.Refusal.TheVariants as refusals
use Rattle.store_runs.specs.declared.compacting.Compaction.{Compaction}
use Rattle.store_runs.specs.declared.compacting.Compaction.TheVariants as compactions
use Rattle.store.specs.declared.store.Store.{Store}
use Rattle.store_runs.specs.Calls.{PlainReply, merged, moved, nothing, refused}
use Rattle.store_runs.specs.Changes.{PlainChange}
use Rattle.store.specs.Fits.{device_of, listed_in}
use Rattle.store.specs.Applying.{EndsAs, IsChangingAtEachMoment, IsChangedOnDisk}
use Rattle.store_runs.specs.Compacting.{IsStep, UnreadsStep}

-- as a reply
abbrev pub reply_of : Compaction → PlainReply
reply_of compactions.Merged = merged
reply_of compactions.Moved = moved
reply_of compactions.Nothing = nothing

abbrev pub step_reply : Result Compaction Refusal → PlainReply
step_reply (Ok done) = reply_of done
step_reply (Err r) = refused r

-- the store after a step: its change is carried out, or everything is as it was
abbrev pub EndsStep : {D : Type 0} {g : Ghosts D} → (size : D → ℕ) → (old : Store D g) → Option PlainChange → (new : Store D g) → Type 0
EndsStep size old None new = new.opened ≡ old.opened
EndsStep size old (Some change) new = EndsAs size old (Ok change) (Ok tt) new

-- a successful step
pub record HasStepped {D : Type 0} {g : Ghosts D} (size : D → ℕ) (story : D → Story) (tells : Bool) (old : Store D g) (done : Compaction) (new : Store D g) : Type 0 where
  pub change : Option PlainChange
  pub step : IsStep tells (shown_image (now (story (device_of old)))) (size (device_of old)) (IsUsedIn old.opened.map.entries) (listed_in old) done change
  pub ends : EndsStep size old change new

-- a change that was decided, and is refused for lack of an epoch, of room or of memory, or by the device
pub record StepRefused {D : Type 0} {g : Ghosts D} (size : D → ℕ) (story : D → Story) (tells : Bool) (old : Store D g) (r : Refusal) (new : Store D g) : Type 0 where
  pub done : Compaction
  pub change : PlainChange
  pub step : IsStep tells (shown_image (now (story (device_of old)))) (size (device_of old)) (IsUsedIn old.opened.map.entries) (listed_in old) done (Some change)
  pub ends : EndsAs size old (Ok change) (Err r) new

-- the refusals of a step
abbrev pub RefusesStep : {D : Type 0} {g : Ghosts D} → (size : D → ℕ) → (story : D → Story) → (tells halted : Bool) → (old : Store D g) → Refusal → (new : Store D g) → Type 0
RefusesStep size story tells true old r new = r ≡ refusals.Halted
RefusesStep size story tells false old r new =
    UnreadsStep tells (shown_image (now (story (device_of old)))) (listed_in old) r ⊎ StepRefused size story tells old r new

-- ---- what lies on the disk

-- a step decides on this change, by what reads showed when it began
abbrev pub DecidesStep : {D : Type 0} {g : Ghosts D} → (size : D → ℕ) → (story : D → Story) → (tells : Bool) → (old : Store D g) → Compaction → PlainChange → Type 0
DecidesStep size story tells old done change =
    IsStep tells (shown_image (now (story (device_of old)))) (size (device_of old)) (IsUsedIn old.opened.map.entries) (listed_in old) done (Some change)

-- at each moment of a step of a store that lies on its disk, whatever its segments hold: it only reads, or it carries out the change that it decided on
abbrev pub IsSteppingAtEachMoment : {D : Type 0} {g : Ghosts D} → (size : D → ℕ) → (story : D → Story) → (tells : Bool) → (old new : Store D g) → Type 0
IsSteppingAtEachMoment size story tells old new =
    IsChangingAtEachMoment size story old (λ change. (done : Compaction) × DecidesStep size story tells old done change) new

-- after a step that did something
abbrev pub HasSteppedOnDisk : {D : Type 0} {g : Ghosts D} → (size : D → ℕ) → (story : D → Story) → (tells : Bool) → (old : Store D g) → Compaction → (new : Store D g) → Type 0
HasSteppedOnDisk size story tells old done new = IsChangedOnDisk size story old (DecidesStep size story tells old done) new
