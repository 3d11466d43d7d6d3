-- What recoding answers and writes.
use Rattle.std.specs.Prelude.{◌≡◌, ℕ, List, Option, IfSome, Result, Ok, Err}
use Rattle.std.specs.Io.KnownBytes.{Appends}
use Rattle.cells.specs.Cell.{PlainTable}
use Rattle.ipc_message.specs.Header.{supported_codes}
use Rattle.ipc_stream.specs.Meaning.{meaning}
use Rattle.ipc_canonical.specs.Canonical.{canonical}
use Rattle.cli_reports.specs.declared.refusal.Refusal.{Refusal}
use Rattle.cli_reports.specs.declared.refusal.Refusal.TheVariants.{Fault, NoEnd, TooManyBytes, Io, BadSize, BadScript, Fields, NoText, BadDigest, NotAnArchive, BadMember, LacksSegment, Text, Query, Opening, Store, Line, TextLine, OutOfMemory}
use Rattle.cli_reports.specs.declared.refusal.Side.TheVariants.{Input, Output}

-- the answer is about the whole input: it has a meaning, or a fault
abbrev pub IsVerdict : {A : Type 0} → Result A Refusal → Type 0
IsVerdict (Ok x) = Unit {0}
IsVerdict (Err (Fault fault)) = Unit {0}
IsVerdict (Err NoEnd) = ⊥
IsVerdict (Err TooManyBytes) = ⊥
IsVerdict (Err (Io side)) = ⊥
IsVerdict (Err BadSize) = ⊥
IsVerdict (Err (BadScript line)) = ⊥
IsVerdict (Err (Fields error)) = ⊥
IsVerdict (Err (NoText number)) = ⊥
IsVerdict (Err (BadDigest line)) = ⊥
IsVerdict (Err NotAnArchive) = ⊥
IsVerdict (Err (BadMember member)) = ⊥
IsVerdict (Err (LacksSegment digest)) = ⊥
IsVerdict (Err (Text refused)) = ⊥
IsVerdict (Err (Query refusal)) = ⊥
IsVerdict (Err (Opening refusal)) = ⊥
IsVerdict (Err (Store refusal)) = ⊥
IsVerdict (Err (Line number refusal)) = ⊥
IsVerdict (Err (TextLine number refused)) = ⊥
IsVerdict (Err OutOfMemory) = ⊥

-- the input means a table, and what was written, from `old` to `new`, is the canonical stream of that table and nothing else
abbrev pub AppendsCanonical : Option (List ℕ) → Option (List ℕ) → List ℕ → Type 0
AppendsCanonical old new input = (table : PlainTable) × (meaning supported_codes input ≡ Ok table) × Appends old new (canonical table)

-- why an input that had these bytes left is not recoded: it has this fault, it is too long, a read or a write failed, or memory was refused. A
-- reported fault is the fault of the input
abbrev pub IsTrueFault : Refusal → Option (List ℕ) → Type 0
IsTrueFault (Fault fault) input = IfSome input (λ bytes. meaning supported_codes bytes ≡ Err fault)
IsTrueFault TooManyBytes input = Unit {0}
IsTrueFault (Io Input) input = Unit {0}
IsTrueFault (Io Output) input = Unit {0}
IsTrueFault OutOfMemory input = Unit {0}
IsTrueFault _ input = ⊥
