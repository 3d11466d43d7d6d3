-- How the end of a run is reported.
use Rattle.std.specs.Prelude.{◌≡◌, ◌⊎◌, ℕ, max, if◌then◌else◌, List, [], ◌∷◌, ◌++◌, codes}
use Rattle.clap.specs.declared.error.kind.ErrorKind.{ErrorKind}
use Rattle.clap.specs.declared.error.kind.ErrorKind.TheVariants as kinds
use Rattle.cli_reports.specs.Refusals.{refusal_text}
use Rattle.cli_reports.specs.declared.refusal.Refusal.{Refusal}
use Rattle.cli_reports.specs.declared.refusal.Refusal.TheVariants.{OutOfMemory}
use Rattle.cli_reports.specs.declared.status.Ended.{Ended}
use Rattle.cli_reports.specs.declared.status.Status.{Status}
use Rattle.cli_reports.specs.declared.status.Status.TheVariants.{Done, PartlyDone, Refused, WrongArguments}

-- the line of a refusal on standard error
unfoldable pub refusal_line : Refusal → List ℕ
refusal_line refusal = codes "refused " ++ refusal_text refusal ++ 10 ∷ []

-- the exit status
abbrev pub status_code : Status → ℕ
status_code Done = 0
status_code PartlyDone = 1
status_code (Refused refusal) = 1
status_code WrongArguments = 2

-- if the report was not taken, at least the status of a refusal
abbrev pub ended_code : Ended → ℕ
ended_code ended = if ended.is_reported then status_code ended.status else max 1 (status_code ended.status)

abbrev pub IfRefused : Status → (Refusal → Type 0) → Type 0
IfRefused Done P = Unit {0}
IfRefused PartlyDone P = Unit {0}
IfRefused (Refused refusal) P = P refusal
IfRefused WrongArguments P = Unit {0}

abbrev pub IsRefused : Status → Type 0
IsRefused status = (refusal : Refusal) × (status ≡ Refused refusal)

-- the arguments are reported as wrong, unless memory is out
abbrev pub IsWrong : Status → Type 0
IsWrong status = (status ≡ WrongArguments) ⊎ (status ≡ Refused OutOfMemory)

-- the arguments ask for help or the version
abbrev pub IsRequest : ErrorKind → Type 0
IsRequest kind = (kind ≡ kinds.DisplayHelp) ⊎ (kind ≡ kinds.DisplayVersion)
