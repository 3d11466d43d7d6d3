-- Why an input is not read whole, as the program reports it.
use Rattle.std.specs.Prelude.{ℕ, List, ◌≡◌, ◌+◌, ◌≤◌, length, Option, IfSome, Result, Ok, Err}
use Rattle.store.specs.Input.{HasGiven, HasGivenAtMost}
use Rattle.cli_commands.specs.declared.input.TheConstants.{LARGEST_INPUT}
use Rattle.cli_reports.specs.declared.refusal.Refusal.{Refusal}
use Rattle.cli_reports.specs.declared.refusal.Refusal.TheVariants.{Fault, NoEnd, TooManyBytes, Io, BadSize, BadScript, Fields, NoText, BadDigest, NotAnArchive, BadMember, LacksSegment, Text, Query, Opening, Store, Line, TextLine, OutOfMemory}
use Rattle.cli_reports.specs.declared.refusal.Side.TheVariants.{Input}

-- P holds, unless the answer is the refusal of too many bytes
abbrev pub UnlessTooManyBytes : {A : Type 0} → Result A Refusal → Type 0 → Type 0
UnlessTooManyBytes (Ok x) P = P
UnlessTooManyBytes (Err (Fault fault)) P = P
UnlessTooManyBytes (Err NoEnd) P = P
UnlessTooManyBytes (Err TooManyBytes) P = Unit {0}
UnlessTooManyBytes (Err (Io side)) P = P
UnlessTooManyBytes (Err BadSize) P = P
UnlessTooManyBytes (Err (BadScript line)) P = P
UnlessTooManyBytes (Err (Fields error)) P = P
UnlessTooManyBytes (Err (NoText number)) P = P
UnlessTooManyBytes (Err (BadDigest line)) P = P
UnlessTooManyBytes (Err NotAnArchive) P = P
UnlessTooManyBytes (Err (BadMember member)) P = P
UnlessTooManyBytes (Err (LacksSegment digest)) P = P
UnlessTooManyBytes (Err (Text refused)) P = P
UnlessTooManyBytes (Err (Query refusal)) P = P
UnlessTooManyBytes (Err (Opening refusal)) P = P
UnlessTooManyBytes (Err (Store refusal)) P = P
UnlessTooManyBytes (Err (Line number refusal)) P = P
UnlessTooManyBytes (Err (TextLine number refused)) P = P
UnlessTooManyBytes (Err OutOfMemory) P = P

-- why an input is not read: it is too long, a read failed, or memory was refused
abbrev pub IsOfInput : Refusal → Type 0
IsOfInput TooManyBytes = Unit {0}
IsOfInput (Io Input) = Unit {0}
IsOfInput OutOfMemory = Unit {0}
IsOfInput _ = ⊥

-- these bytes are all that an input had left, and no more than an input may have
abbrev pub IsWholeInput : Option (List ℕ) → List ℕ → Type 0
IsWholeInput input bytes = IfSome input (λ all. bytes ≡ all) × (length bytes ≤ LARGEST_INPUT)

-- why an input is not passed on, and what was read of it: one byte more than an input may have; or, before that byte, a read failed or memory was
-- refused
abbrev pub RefusesInput : (old new : Option (List ℕ)) → Refusal → Type 0
RefusesInput old new TooManyBytes = HasGiven old new (LARGEST_INPUT + 1)
RefusesInput old new (Io Input) = HasGivenAtMost old new LARGEST_INPUT
RefusesInput old new OutOfMemory = HasGivenAtMost old new LARGEST_INPUT
RefusesInput old new _ = ⊥
