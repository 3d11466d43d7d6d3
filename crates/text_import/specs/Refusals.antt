-- The refusal of an error, and steps that may be refused.
use Rattle.std.specs.Prelude.{ℕ, Option, Some, None, Result, Ok, Err}
use Rattle.text_import.specs.declared.refusal.Refusal.{Refusal}
use Rattle.text_import.specs.declared.refusal.Refused.{Refused}
use Rattle.text_import.specs.declared.refusal.TextError.{TextError}
use Rattle.text_import.specs.declared.refusal.TextError.TheVariants as errors
use Rattle.text_import.specs.declared.refusal.CellError.{CellError}
use Rattle.text_import.specs.declared.refusal.CellError.TheVariants as cell_errors

-- the refusal of an error: none if memory was refused
abbrev pub refused_by : TextError → Option Refused
refused_by (errors.Refused r) = Some r
refused_by errors.OutOfMemory = None

-- the same for a part of a record, without its number
abbrev pub refusal_of : CellError → Option Refusal
refusal_of (cell_errors.Refused r) = Some r
refusal_of cell_errors.OutOfMemory = None

-- the second step if the first one succeeded, or else its refusal
abbrev pub and_then : {A B E : Type 0} → Result A E → (A → Result B E) → Result B E
and_then (Ok a) f = f a
and_then (Err e) f = Err e

abbrev pub given : {A B E : Type 0} → (A → B) → Result A E → Result B E
given f (Ok a) = Ok (f a)
given f (Err e) = Err e

-- a refusal with the number of its record
abbrev pub numbered : {A : Type 0} → ℕ → Result A Refusal → Result A Refused
numbered n (Ok a) = Ok a
numbered n (Err e) = Err (record { refusal = e; number = n })
