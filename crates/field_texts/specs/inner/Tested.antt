-- The result of the test of field texts, before any column is built.
use Rattle.std.specs.Prelude.{◌≡◌, ℕ, ◌<◌, true, false, List, [], length, get_or, Result, Ok, Err}
use Rattle.field_texts.specs.declared.parse.ParseError.{ParseError}
use Rattle.field_texts.specs.declared.parse.ParseError.TheVariants.{BadText, Limit, OutOfMemory}
use Rattle.field_texts.specs.Typed.{IsFieldText}
use Rattle.field_texts.specs.Reported.{IsBadText, IsPastNumber}

-- the result of the test of one text, and that of all texts in order
abbrev pub TestsOne : ℕ → List ℕ → Result (Unit {0}) ParseError → Type 0
TestsOne number text (Ok _) = IsFieldText true text
TestsOne number text (Err (BadText n)) = (n ≡ number) × (IsFieldText true text → ⊥) × (IsFieldText false text → ⊥)
TestsOne number text (Err Limit) = (IsFieldText true text → ⊥) × IsFieldText false text
TestsOne number text (Err OutOfMemory) = Unit {0}

abbrev pub Tests : List (List ℕ) → Result (Unit {0}) ParseError → Type 0
Tests texts (Ok _) = (k : ℕ) → k < length texts → IsFieldText true (get_or texts k [])
Tests texts (Err (BadText n)) = IsBadText texts n
Tests texts (Err Limit) = IsPastNumber texts
Tests texts (Err OutOfMemory) = Unit {0}
