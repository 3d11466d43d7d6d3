-- What a run of `recode` leaves on its output, and what a run without a store may hint at.
use Rattle.std.specs.Prelude.{◌≡◌, ◌≢◌, ◌⊎◌, ◌<◌, ℕ, List, length, Option, Some, None, IfSome, IsErr}
use Rattle.clap.specs.Words.{Text}
use Rattle.ipc_message.specs.Header.{supported_codes}
use Rattle.ipc_message.specs.declared.fault.Fault.{Fault}
use Rattle.ipc_message.specs.declared.fault.Fault.TheVariants as faults
use Rattle.ipc_stream.specs.Meaning.{meaning}
use Rattle.cli_reports.specs.declared.hint.Hint.{Hint}
use Rattle.cli_reports.specs.declared.hint.Hint.TheVariants as hints
use Rattle.cli_reports.specs.declared.refusal.Refusal.{Refusal}
use Rattle.cli_reports.specs.declared.refusal.Refusal.TheVariants as refusals
use Rattle.cli_reports.specs.declared.refusal.Side.TheVariants as sides
use Rattle.cli_reports.specs.declared.refusal.Refusal.TheVariants.{TooManyBytes}
use Rattle.cli_reports.specs.declared.status.Status.{Status}
use Rattle.cli_reports.specs.declared.status.Status.TheVariants.{Done, PartlyDone, Refused, WrongArguments}
use Rattle.cli_reports.specs.Ending.{HintsText, IsOutput}
use Rattle.cli_reports.specs.Reported.{IfRefused, IsRefused}
use Rattle.cli_commands.specs.declared.input.TheConstants.{LARGEST_INPUT}
use Rattle.cli_commands.specs.Recode.{AppendsCanonical, IsTrueFault}
use Rattle.arrowstore.specs.Arguments.{AreRecode}
use Rattle.arrowstore.specs.declared.streams_again.FoundOfStreams.{FoundOfStreams}
use Rattle.arrowstore.specs.declared.streams_again.FoundOfStreams.TheVariants as found

-- a run of `recode` whose input had these bytes left
pub record Recodes {W : Type 0} (contents : W → Option (List ℕ)) (input : Option (List ℕ)) (output output' : W) (status : Status) : Type 0 where
  -- if it is done, exactly the canonical stream of what the input means was written
  pub recoded : status ≡ Done → IfSome input (AppendsCanonical (contents output) (contents output'))
  -- an input that has no meaning or too many bytes is refused, and nothing is written
  pub meaningless : IfSome input (λ bytes. IsErr (meaning supported_codes bytes) → IsRefused status × (output' ≡ output))
  pub too_long : IfSome input (λ bytes. LARGEST_INPUT < length bytes → IsRefused status × (output' ≡ output))
  -- a fault that is reported is the fault of the input, and every refusal is about the input, the output or memory
  pub fault : IfRefused status (λ refusal. IsTrueFault refusal input)
  -- too many bytes are reported only of an input that has them
  pub too_many : status ≡ Refused TooManyBytes → IfSome input (λ bytes. LARGEST_INPUT < length bytes)
  -- nothing is left out
  pub whole : status ≢ PartlyDone
  -- its arguments are accepted
  pub right_arguments : status ≢ WrongArguments

-- the stream has some fault
abbrev pub IsOfFault : Refusal → Type 0
IsOfFault refusal = (fault : Fault) × (refusal ≡ refusals.Fault fault)

-- the input can't be read
abbrev pub IsInput : Refusal → Type 0
IsInput refusal = refusal ≡ refusals.Io sides.Input

-- what may be hinted of a refused `recode`: why a read or a write failed, that the input, which has no schema, is empty, or the name of a field after a
-- fault of the stream
abbrev pub HintsRecode : Option Hint → Refusal → Type 0
HintsRecode None refusal = Unit {0}
HintsRecode (Some (hints.Input reason)) refusal = IsInput refusal
HintsRecode (Some (hints.Output reason)) refusal = IsOutput refusal
HintsRecode (Some hints.EmptyInput) refusal = refusal ≡ refusals.Fault faults.NoSchema
HintsRecode (Some (hints.Field name)) refusal = IsOfFault refusal
HintsRecode (Some hint) refusal = ⊥

-- what may be hinted of a run without a store: that of `recode`, or of a text
abbrev pub MayHint : (arguments : List Text) → Option Hint → Refusal → Type 0
MayHint arguments hint refusal = (AreRecode arguments × HintsRecode hint refusal) ⊎ HintsText hint refusal

-- the refusal after which this is found
abbrev pub IsFoundFor : FoundOfStreams → Refusal → Type 0
IsFoundFor (found.Unread reason) refusal = IsInput refusal
IsFoundFor (found.Unwritten reason) refusal = IsOutput refusal
IsFoundFor found.Empty refusal = refusal ≡ refusals.Fault faults.NoSchema
IsFoundFor (found.Field name) refusal = IsOfFault refusal
