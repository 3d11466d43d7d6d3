-- What a function that keeps what it reads promises of the walk.
use Rattle.std.specs.Prelude.{◌≡◌, ℕ, List, Result, Ok, Err, ⊤}
use Rattle.flatbuf.specs.declared.FlatError.{FlatError}
use Rattle.flatbuf.specs.declared.buf.Budget.{Budget}
use Rattle.flatbuf.specs.Seen.{tables_in}
use Rattle.flatbuf.specs.Walk.{Thing, run}
use Rattle.ipc_message.specs.declared.fault.Fault.{Fault}
use Rattle.ipc_message.specs.declared.raw_header.Header.{Header}
use Rattle.ipc_message.specs.declared.walk_error.WalkError.{WalkError}
use Rattle.ipc_message.specs.declared.walk_error.WalkError.TheVariants as errors
use Rattle.ipc_message.specs.Framing.{flat_fault}
use Rattle.ipc_message.specs.Raw.{RawHeader}
use Rattle.ipc_message.specs.View.{raw_header_of}

-- the error is that of the walk, unless memory was refused
abbrev pub WalkFails : WalkError → Result ℕ FlatError → Type 0
WalkFails errors.Memory walked = ⊤
WalkFails (errors.Flat f) walked = walked ≡ Err f

-- what a result reports of the walk over these things, from one number of tables to another
abbrev pub ReportsWalk : {X : Type 0} → List ℕ → List Thing → ℕ → ℕ → Result X WalkError → Type 0
ReportsWalk bytes things old new (Ok x) = run bytes things old ≡ Ok new
ReportsWalk bytes things old new (Err e) = WalkFails e (run bytes things old)

-- the same for a call that enters tables
abbrev pub WalksUnlessRefused : {X : Type 0} → List ℕ → List Thing → Budget → Budget → Result X WalkError → Type 0
WalksUnlessRefused bytes things old new result = ReportsWalk bytes things (tables_in old) (tables_in new) result

-- the result is the decoded header or the reported fault, unless memory was refused
abbrev pub Decodes : Result Header WalkError → Result RawHeader Fault → Type 0
Decodes (Ok h) decoded = decoded ≡ Ok (raw_header_of h)
Decodes (Err errors.Memory) decoded = ⊤
Decodes (Err (errors.Flat f)) decoded = decoded ≡ Err (flat_fault f)
