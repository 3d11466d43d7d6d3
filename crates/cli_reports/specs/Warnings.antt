-- What is told of a command that is done: what it has brought, and what it leaves in doubt.
use Rattle.std.specs.Prelude.{ℕ, if◌then◌else◌, decimal, List, [], ◌∷◌, ◌++◌, codes, Option, Some, None}
use Rattle.cli_reports.specs.Output.{AppendsFront}
use Rattle.cli_reports.specs.declared.notes.Note.{Note}
use Rattle.cli_reports.specs.declared.warnings.LiteralForm.{LiteralForm}
use Rattle.cli_reports.specs.declared.warnings.LiteralForm.TheVariants.{Marked, Spaced, Null, Joined}
use Rattle.cli_reports.specs.declared.warnings.Warning.{Warning}
use Rattle.cli_reports.specs.declared.warnings.Warning.TheVariants as warnings
use Rattle.cli_reports.specs.declared.warnings.Notes.{Notes}
use Rattle.cli_reports.specs.declared.warnings.TheConstants.{COMMITS_DISAGREE, LOOK_FIRST}
use Rattle.cli_reports.specs.declared.telling.Audience.{Audience}
use Rattle.cli_reports.specs.Notes.{note_to, TellsNote}
use Rattle.cli_reports.specs.Told.{is_advised}

-- what a literal was taken to be
abbrev pub form_text : LiteralForm → List ℕ
form_text Marked = codes "was taken with its quotation marks: leave them out."
form_text Spaced = codes "was taken with the spaces at its ends: leave them out."
form_text Null = codes "was taken as a text: `is null` and `is not null` ask for nulls."
form_text Joined = codes "was taken as one text: give each condition as a word of its own."

-- the sentence of a warning
unfoldable pub warning_text : Warning → List ℕ
warning_text (warnings.OpenQuotation line) =
    codes "The text ends within quotation marks that begin on line " ++ decimal line ++ codes ": all that follows them is in one field."
warning_text (warnings.Literal (Some text) form) =
    codes "No row meets the conditions. The literal `" ++ text.now ++ codes "` " ++ form_text form
warning_text (warnings.Literal None form) = codes "No row meets the conditions. A literal " ++ form_text form
warning_text warnings.OtherCommits = COMMITS_DISAGREE.now ++ codes " " ++ LOOK_FIRST.now

abbrev pub warning_line : Warning → List ℕ
warning_line warning = warning_text warning ++ 10 ∷ []

-- only a terminal and a script are told a warning
abbrev pub warning_to : Audience → Option Warning → Option Warning
warning_to audience None = None
warning_to audience (Some warning) = if is_advised audience then Some warning else None

abbrev pub both_notes : Option Note → Option Warning → Notes
both_notes note warning = record { note = note; warning = warning }

abbrev pub no_notes : Notes
no_notes = both_notes None None

-- what standard error gets of a note, and then of a warning: its line too, or only some first bytes of it, or none
abbrev pub TellsBoth : {E : Type 0} → (contents : E → Option (List ℕ)) → Option Note → Option Warning → (errors errors' : E) → Type 0
TellsBoth contents note None errors errors' = TellsNote contents note errors errors'
TellsBoth {E} contents note (Some warning) errors errors' =
    (noted : E) × TellsNote contents note errors noted × AppendsFront (contents noted) (contents errors') (warning_line warning)

-- what it gets of both where this audience reads it
abbrev pub TellsNotes : {E : Type 0} → (contents : E → Option (List ℕ)) → Audience → Notes → (errors errors' : E) → Type 0
TellsNotes contents audience notes errors errors' = TellsBoth contents (note_to audience notes.note) (warning_to audience notes.warning) errors errors'
