-- What opening a store finds, counts and reports.
use Rattle.std.specs.Prelude.{◌≡◌, ◌⊎◌, ◌+◌, ◌-◌, ◌^◌, ℕ, min, List, Result, Ok, Err}
use Rattle.sector_dev.specs.Disk.{Disk, Story, now, shown_image, flushed, Flushes}
use Rattle.sector_dev.specs.Time.{OnlyReads}
use Rattle.segments.specs.declared.errors.EnterError.{EnterError}
use Rattle.segments.specs.declared.errors.EnterError.TheVariants.{Range as RangeError, Overlap as OverlapError, TooManyPins as PinsError, OutOfMemory as MemoryError}
use Rattle.segments.specs.declared.extent.Extent.{Extent}
use Rattle.commit.specs.declared.cause.Cause.{Cause}
use Rattle.commit.specs.declared.cause.Cause.TheVariants.{RunRange, RunOverlap}
use Rattle.commit.specs.declared.sector.Commit.{Commit}
use Rattle.commit.specs.Standing.{Reading, Standing, no_store, damaged, extent_at, text_at, named_by, standing}
use Rattle.commit.specs.declared.reading.OpenError.{OpenError}
use Rattle.commit.specs.declared.reading.OpenError.TheVariants.{NotAStore, Damaged, Device, OutOfMemory}

-- a failed call of the device is counted, up to the greatest number; no other result is
abbrev pub CountsOpen : {T : Type 0} → ℕ → ℕ → Result T OpenError → Type 0
CountsOpen before after (Ok x) = after ≡ before
CountsOpen before after (Err NotAStore) = after ≡ before
CountsOpen before after (Err (Damaged cause)) = after ≡ before
CountsOpen before after (Err Device) = after ≡ min (before + 1) (2 ^ 64 - 1)
CountsOpen before after (Err OutOfMemory) = after ≡ before

-- why a run of a catalogue can't come into use, as an error of the store
abbrev pub open_error : EnterError → OpenError
open_error RangeError = Damaged RunRange
open_error OverlapError = Damaged RunOverlap
open_error PinsError = Damaged RunOverlap
open_error MemoryError = OutOfMemory

-- the bytes of an extent with at least `least` bytes, as reads return them
abbrev pub extent_shown : ℕ → Story → (least : ℕ) → Extent → Result (List ℕ) Cause
extent_shown size story least e = extent_at size (shown_image (now story)) least e

-- the text of the catalogue that this commit names, as reads return it
abbrev pub text_shown : ℕ → Story → Commit → Result (List ℕ) Cause
text_shown size story k = text_at size (shown_image (now story)) k

-- the catalogue of this text, and the one that this commit names, as reads return them
abbrev pub spelled_shown : {C : Type 0} → Reading C → ℕ → Story → Commit → List ℕ → Result C Cause
spelled_shown reading size story k text = reading.at size (shown_image (now story)) k text

abbrev pub named_shown : {C : Type 0} → Reading C → ℕ → Story → Commit → Result C Cause
named_shown reading size story k = named_by reading size (shown_image (now story)) k

-- the result of opening, as reads return it
abbrev pub standing_shown : {C : Type 0} → Reading C → ℕ → Story → Standing C
standing_shown reading size story = standing reading size (shown_image (now story))

-- the cause of a store that is reported as damaged is the right one
abbrev pub TellsCause : {C : Type 0} → OpenError → Result C Cause → Type 0
TellsCause NotAStore read = Unit {0}
TellsCause (Damaged cause) read = read ≡ Err cause
TellsCause Device read = Unit {0}
TellsCause OutOfMemory read = Unit {0}

-- what is reported of a store is what is found
abbrev pub TellsStanding : {C : Type 0} → OpenError → Standing C → Type 0
TellsStanding NotAStore found = found ≡ no_store
TellsStanding (Damaged cause) found = found ≡ damaged cause
TellsStanding Device found = Unit {0}
TellsStanding OutOfMemory found = Unit {0}

-- at a moment of opening: the disk is unchanged, or what reads returned is synced
abbrev pub IsOpening : Disk → Disk → Type 0
IsOpening before d = (d ≡ before) ⊎ (d ≡ flushed before)

-- calls that only read, and then one sync
pub record SyncsOnce (old new : Story) : Type 0 where
  pub read : Story
  pub reads : OnlyReads old read
  pub sync : Flushes read new
