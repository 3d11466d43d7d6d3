-- What is told of a command that is done.
use Rattle.std.specs.Prelude.{◌≡◌, ℕ, if◌then◌else◌, List, [], ◌∷◌, ◌++◌, codes, Option, Some, None}
use Rattle.cli_reports.specs.Hint.{counted}
use Rattle.cli_reports.specs.Output.{AppendsFront}
use Rattle.cli_reports.specs.declared.notes.Note.{Note}
use Rattle.cli_reports.specs.declared.notes.Note.TheVariants as notes
use Rattle.cli_reports.specs.declared.telling.Audience.{Audience}
use Rattle.cli_reports.specs.Told.{is_advised}

-- the sentences of a note
unfoldable pub note_text : Note → List ℕ
note_text (notes.Appended rows) = codes "Appended " ++ counted rows (codes "row") ++ codes "."
note_text (notes.Made rows) = codes "The table has " ++ counted rows (codes "row") ++ codes "."
note_text (notes.Replaced rows replaced) =
    codes "The table has " ++ counted rows (codes "row") ++ codes ". It has replaced one of " ++ counted replaced (codes "row") ++ codes "."
note_text (notes.Saved rows) = codes "Saved " ++ counted rows (codes "row") ++ codes "."
note_text (notes.Dropped rows) = codes "Dropped a table of " ++ counted rows (codes "row") ++ codes "."

abbrev pub note_line : Note → List ℕ
note_line note = note_text note ++ 10 ∷ []

-- only a terminal and a script are told a note
abbrev pub note_to : Audience → Option Note → Option Note
note_to audience None = None
note_to audience (Some note) = if is_advised audience then Some note else None

-- what standard error gets of a note: its line, of which only some first bytes, or none, if memory is refused or a write fails; and nothing without a note
abbrev pub TellsNote : {E : Type 0} → (contents : E → Option (List ℕ)) → Option Note → (errors errors' : E) → Type 0
TellsNote contents None errors errors' = errors' ≡ errors
TellsNote contents (Some note) errors errors' = AppendsFront (contents errors) (contents errors') (note_line note)
