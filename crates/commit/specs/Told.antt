-- Why a device is not opened or formatted, as it is reported.
use Rattle.std.specs.Prelude.{ℕ, List, ◌++◌, codes}
use Rattle.commit.specs.declared.cause.Cause.{Cause}
use Rattle.commit.specs.declared.cause.Cause.TheVariants as causes
use Rattle.commit.specs.declared.opening_refusal.OpeningRefusal.{OpeningRefusal}
use Rattle.commit.specs.declared.opening_refusal.OpeningRefusal.TheVariants as refusals

abbrev pub cause_text : Cause → List ℕ
cause_text causes.DeviceSize = codes "DeviceSize"
cause_text causes.CatalogueRange = codes "CatalogueRange"
cause_text causes.CatalogueUnreadable = codes "CatalogueUnreadable"
cause_text causes.CatalogueText = codes "CatalogueText"
cause_text causes.RunRange = codes "RunRange"
cause_text causes.RunOverlap = codes "RunOverlap"

-- code, name and value, separated by spaces
abbrev pub opening_text : OpeningRefusal → List ℕ
opening_text refusals.NotAStore = codes "C1 NotAStore"
opening_text refusals.AlreadyAStore = codes "C2 AlreadyAStore"
opening_text (refusals.Damaged cause) = codes "C3 Damaged " ++ cause_text cause
opening_text refusals.Device = codes "C4 Device"
opening_text refusals.OutOfMemory = codes "OutOfMemory"
