-- The refusals of an opening and of a formatting, and what they say about the device.
use Rattle.std.specs.Prelude.{◌≡◌, ◌≢◌, ℕ, false, Option, None}
use Rattle.catalogue.specs.Entries.{PlainCatalogue}
use Rattle.commit.specs.Standing.{Standing, no_store, damaged, is_size}
use Rattle.commit.specs.declared.cause.Cause.TheVariants.{DeviceSize}
use Rattle.commit.specs.declared.sector.Commit.{Commit}
use Rattle.commit.specs.declared.formatting.FormatError.{FormatError}
use Rattle.commit.specs.declared.formatting.FormatError.TheVariants as formats
use Rattle.commit.specs.declared.reading.OpenError.{OpenError}
use Rattle.commit.specs.declared.reading.OpenError.TheVariants as errors
use Rattle.commit.specs.declared.opening_refusal.OpeningRefusal.{OpeningRefusal}
use Rattle.commit.specs.declared.opening_refusal.OpeningRefusal.TheVariants as refusals

-- the reported refusal of an opening
abbrev pub opening_of : OpenError → OpeningRefusal
opening_of errors.NotAStore = refusals.NotAStore
opening_of (errors.Damaged cause) = refusals.Damaged cause
opening_of errors.Device = refusals.Device
opening_of errors.OutOfMemory = refusals.OutOfMemory

-- what a refused opening reports about the device is true; it never reports that there is already a store
abbrev pub TellsOpening : OpeningRefusal → Standing PlainCatalogue → Type 0
TellsOpening refusals.NotAStore found = found ≡ no_store
TellsOpening refusals.AlreadyAStore found = ⊥
TellsOpening (refusals.Damaged cause) found = found ≡ damaged cause
TellsOpening refusals.Device found = Unit {0}
TellsOpening refusals.OutOfMemory found = Unit {0}

-- the reported refusal of a formatting
abbrev pub formatting_of : FormatError → OpeningRefusal
formatting_of formats.AlreadyAStore = refusals.AlreadyAStore
formatting_of (formats.Damaged cause) = refusals.Damaged cause
formatting_of formats.Device = refusals.Device
formatting_of formats.OutOfMemory = refusals.OutOfMemory

-- what a refused formatting reports about the size of a device, and about the commit that rules it by what reads showed, is true
abbrev pub TellsFormatting : OpeningRefusal → ℕ → Option Commit → Type 0
TellsFormatting refusals.NotAStore size found = ⊥
TellsFormatting refusals.AlreadyAStore size found = found ≢ None
TellsFormatting (refusals.Damaged cause) size found = (cause ≡ DeviceSize) × (is_size size ≡ false)
TellsFormatting refusals.Device size found = Unit {0}
TellsFormatting refusals.OutOfMemory size found = found ≡ None

-- the refusals of a formatting of a device of this size, even one that does not tell its story: never that there is no store, and damaged only by its size
abbrev pub IsOfFormatting : ℕ → OpeningRefusal → Type 0
IsOfFormatting size refusals.NotAStore = ⊥
IsOfFormatting size refusals.AlreadyAStore = Unit {0}
IsOfFormatting size (refusals.Damaged cause) = (cause ≡ DeviceSize) × (is_size size ≡ false)
IsOfFormatting size refusals.Device = Unit {0}
IsOfFormatting size refusals.OutOfMemory = Unit {0}
