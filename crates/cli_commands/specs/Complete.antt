-- Streams that must have their end.
use Rattle.std.specs.Prelude.{◌≡◌, ◌⊎◌, ℕ, Bool, true, false, List, [], Option, Result, IsErrAnd}
use Rattle.ipc_message.specs.Framing.{Envelope, Frames}
use Rattle.tables.specs.declared.refusal.Refusal as tables
use Rattle.cli_reports.specs.declared.refusal.Refusal.{Refusal}
use Rattle.cli_reports.specs.declared.refusal.Refusal.TheVariants.{NoEnd, Store}
use Rattle.cli_commands.specs.Changing.{Answered}
use Rattle.cli_commands.specs.Given.{IsWholeInput, RefusesInput}
use Rattle.cli_commands.specs.Unread.{RefusesUnread}

-- the bytes are whole messages, and nothing is after them: no end of stream (Arrow columnar format, "IPC Streaming Format")
abbrev pub LacksEnd : List ℕ → Type 0
LacksEnd bytes = (messages : List Envelope) × Frames bytes messages []

-- why no stream is passed on: the whole input was read and lacks its end; or it is not read
abbrev pub RefusesStream : (old new : Option (List ℕ)) → Refusal → Type 0
RefusesStream old new NoEnd = (bytes : List ℕ) × IsWholeInput old bytes × LacksEnd bytes
RefusesStream old new refusal = RefusesInput old new refusal

-- why no stream is passed on: it was refused unread; or it passed the first test, and is not read or lacks its end
abbrev pub RefusesWhole : {R : Type 0} → (remaining : R → Option (List ℕ)) → (halted passes : Bool) → (why : tables.Refusal) → (old new : R) → Refusal → Type 0
RefusesWhole remaining halted passes why old new (Store refusal) = RefusesUnread halted passes why (Store refusal) × (new ≡ old)
RefusesWhole remaining halted passes why old new refusal =
    (halted ≡ false) × (passes ≡ true) × RefusesStream (remaining old) (remaining new) refusal

-- the whole input, which does not lack its end, was given to the store, and the program's answer follows its answer; or it was refused before, and
-- `before` holds of the refusal
abbrev pub HandsWhole : (input : Option (List ℕ)) → (List ℕ → Result (Unit {0}) tables.Refusal → Type 0) → (before : Refusal → Type 0)
    → Result (Unit {0}) Refusal → Type 0
HandsWhole input P before result =
    IsErrAnd result before ⊎ ((bytes : List ℕ) × IsWholeInput input bytes × ¬ LacksEnd bytes × Answered (P bytes) result)
