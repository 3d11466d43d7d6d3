-- The text of a refusal: its code, its name, and the number of its record.
use Rattle.std.specs.Prelude.{ℕ, List, ◌++◌, codes, decimal}
use Rattle.text_import.specs.declared.refusal.Refusal.{Refusal}
use Rattle.text_import.specs.declared.refusal.Refusal.TheVariants as refusals
use Rattle.text_import.specs.declared.refusal.Refused.{Refused}

abbrev pub refusal_text : Refusal → List ℕ
refusal_text refusals.Header = codes "X1 Header"
refusal_text refusals.Width = codes "X2 Width"
refusal_text refusals.NotUtf8 = codes "X3 NotUtf8"
refusal_text refusals.NotANumber = codes "X4 NotANumber"
refusal_text refusals.OutOfRange = codes "X5 OutOfRange"
refusal_text refusals.NotABool = codes "X6 NotABool"
refusal_text refusals.NotHex = codes "X7 NotHex"
refusal_text refusals.NullMismatch = codes "X8 NullMismatch"
refusal_text refusals.Nested = codes "X9 Nested"
refusal_text refusals.Json = codes "X10 Json"
refusal_text refusals.UnknownName = codes "X11 UnknownName"
refusal_text refusals.MissingName = codes "X12 MissingName"
refusal_text refusals.AmbiguousNames = codes "X13 AmbiguousNames"
refusal_text refusals.FixedWidth = codes "X14 FixedWidth"
refusal_text refusals.TooHeavy = codes "X15 TooHeavy"
refusal_text refusals.DictionaryFull = codes "X16 DictionaryFull"
refusal_text refusals.WrongKind = codes "X17 WrongKind"
refusal_text refusals.NotADate = codes "X18 NotADate"
refusal_text refusals.WrongOffset = codes "X19 WrongOffset"

abbrev pub refused_text : Refused → List ℕ
refused_text r = refusal_text r.refusal ++ codes " " ++ decimal r.number
