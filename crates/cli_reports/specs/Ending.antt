-- What a run of the program leaves on its output and on standard error.
use Rattle.std.specs.Prelude.{◌≡◌, ◌≢◌, ◌<◌, ℕ, List, [], length, Option, Some, None, IsTrue}
use Rattle.std.specs.Io.KnownBytes.{Appends}
use Rattle.cli_reports.specs.declared.hint.Hint.{Hint}
use Rattle.cli_reports.specs.declared.hint.Hint.TheVariants as hints
use Rattle.cli_reports.specs.declared.refusal.Refusal.{Refusal}
use Rattle.cli_reports.specs.declared.refusal.Refusal.TheVariants.{Io, OutOfMemory}
use Rattle.cli_reports.specs.declared.refusal.Side.TheVariants.{Output}
use Rattle.cli_reports.specs.declared.known.Known.{Known}
use Rattle.cli_reports.specs.Known.{unchanging}
use Rattle.cli_reports.specs.declared.status.Ended.{Ended}
use Rattle.cli_reports.specs.declared.status.Status.{Status}
use Rattle.cli_reports.specs.declared.status.Status.TheVariants.{Done, PartlyDone, Refused, WrongArguments}
use Rattle.cli_reports.specs.declared.telling.Audience.{Audience}
use Rattle.cli_reports.specs.LeftOut.{left_out_text}
use Rattle.cli_reports.specs.Warnings.{no_notes, TellsNotes}
use Rattle.cli_reports.specs.declared.warnings.Notes.{Notes}
use Rattle.cli_reports.specs.Reported.{IfRefused}
use Rattle.cli_reports.specs.Told.{told}

-- why one of the program's own texts is not written: the output failed, or memory was refused
abbrev pub IsOfOutput : Refusal → Type 0
IsOfOutput (Io Output) = Unit {0}
IsOfOutput OutOfMemory = Unit {0}
IsOfOutput _ = ⊥

-- a run that is asked for such a text gives it, unless its output fails or memory is refused
abbrev pub GivesText : (given : Type 0) → Status → Type 0
GivesText given Done = given
GivesText given PartlyDone = ⊥
GivesText given (Refused refusal) = IsOfOutput refusal
GivesText given WrongArguments = ⊥

-- some text is written, and nothing else
abbrev pub GivesSome : (contents contents' : Option (List ℕ)) → Type 0
GivesSome contents contents' = (text : List ℕ) × (0 < length text) × Appends contents contents' text

-- what is reported of a refusal, if standard error takes it
abbrev pub TellsRefusal : (tells : Refusal → List ℕ) → Ended → Option (List ℕ) → Option (List ℕ) → Type 0
TellsRefusal tells ended errors errors' = IfRefused ended.status (λ refusal. IsTrue ended.is_reported → Appends errors errors' (tells refusal))

-- the output failed
abbrev pub IsOutput : Refusal → Type 0
IsOutput refusal = refusal ≡ Io Output

-- a run that has ended, whatever it was asked for: what was reported to an audience, with what is known; which segments were left out; the notes of a command
-- that is done; and after which refusals some output may be written
pub record HasReported {W E : Type 0} (contents : E → Option (List ℕ)) (audience : Audience) (known : Known) (left : List (ℕ × ℕ)) (notes : Notes)
    (writes_part : Refusal → Type 0) (output output' : W) (errors errors' : E) (ended : Ended) : Type 0 where
  -- a run that is done leaves nothing out, and tells its notes to whoever is advised, and nothing else; it counts as reported
  pub silent : ended.status ≡ Done → (left ≡ []) × TellsNotes contents audience notes errors errors' × IsTrue ended.is_reported
  -- a run that is partly done reports what it leaves out
  pub listed : ended.status ≡ PartlyDone → (left ≢ []) × (IsTrue ended.is_reported → Appends (contents errors) (contents errors') (left_out_text audience left))
  pub nothing_written : ended.status ≡ WrongArguments → output' ≡ output
  -- a refused run has written nothing, except after these refusals
  pub quiet : IfRefused ended.status (λ refusal. ¬ writes_part refusal → output' ≡ output)
  pub line : TellsRefusal (told audience known) ended (contents errors) (contents errors')

-- what may be hinted of one of the program's own texts or of help: why the output failed
abbrev pub HintsText : Option Hint → Refusal → Type 0
HintsText None refusal = Unit {0}
HintsText (Some (hints.Output reason)) refusal = IsOutput refusal
HintsText (Some hint) refusal = ⊥

-- a run that changes nothing, leaves nothing out and has no notes, and writes a part of its output only if that failed; a refusal is reported with one of these hints or
-- none
abbrev pub HasReportedHint : {W E : Type 0} → (may_hint : Option Hint → Refusal → Type 0) → (contents : E → Option (List ℕ)) → Audience → (output output' : W)
    → (errors errors' : E) → Ended → Type 0
HasReportedHint may_hint contents audience output output' errors errors' ended =
    (hint : Option Hint) × IfRefused ended.status (may_hint hint) × HasReported contents audience (unchanging hint) [] no_notes IsOutput output output' errors errors' ended
