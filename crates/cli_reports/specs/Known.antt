-- What to do about a refused command, by all that is known of it.
use Rattle.std.specs.Prelude.{ℕ, Bool, false, List, Option, Some, None, if◌then◌else◌}
use Rattle.tables.specs.declared.refusal.Refusal.TheVariants.{Read, Write}
use Rattle.cli_reports.specs.declared.hint.Hint.{Hint}
use Rattle.cli_reports.specs.declared.known.FileCause.TheVariants.{Other}
use Rattle.cli_reports.specs.declared.known.Known.{Known}
use Rattle.cli_reports.specs.declared.refusal.Refusal.{Refusal}
use Rattle.cli_reports.specs.declared.refusal.Refusal.TheVariants.{Io, Store}
use Rattle.cli_reports.specs.declared.refusal.Side.TheVariants.{Input, Output}
use Rattle.cli_reports.specs.declared.remedies.TheConstants.{DONE_ALREADY, NEW_OUTPUT, READ_INPUT}
use Rattle.cli_reports.specs.Hint.{remedy_of}
use Rattle.cli_reports.specs.Remedies.{remedy}

-- of a run that changes nothing and uses no file, with this hint
abbrev pub unchanging : Option Hint → Known
unchanging hint = record { changes = false; cause = Other; hint = hint }

abbrev pub remedy_of_hint : Option Hint → Refusal → List ℕ
remedy_of_hint None refusal = remedy refusal
remedy_of_hint (Some hint) refusal = remedy_of hint refusal

-- a command that changes something was done before its output failed
abbrev pub output_remedy : (changes : Bool) → List ℕ
output_remedy changes = if changes then DONE_ALREADY.now else NEW_OUTPUT.now

-- the input and the output have sentences of their own
abbrev pub known_remedy : Known → Refusal → List ℕ
known_remedy known (Io Input) = READ_INPUT.now
known_remedy known (Store Read) = READ_INPUT.now
known_remedy known (Io Output) = output_remedy known.changes
known_remedy known (Store Write) = output_remedy known.changes
known_remedy known refusal = remedy_of_hint known.hint refusal
