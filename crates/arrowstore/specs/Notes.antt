-- What a command that is done is said to have brought: how many rows a table has before and after it, in the list of its store.
use Rattle.std.specs.Prelude.{◌≡◌, ◌+◌, ℕ, List, string_bytes, option_map, Option, Some, None}
use Rattle.catalogue.specs.Entries.{PlainCatalogue, row_count}
use Rattle.catalogue.specs.Edits.{entry_of}
use Rattle.tables.specs.declared.command.Command.TheVariants as commands
use Rattle.cli_reports.specs.declared.notes.Note.{Note}
use Rattle.cli_reports.specs.declared.notes.Note.TheVariants as notes
use Rattle.arrowstore.specs.declared.notes.RowChange.{RowChange}
use Rattle.arrowstore.specs.declared.notes.RowChange.TheVariants.{Appends, Imports, Saves, Drops}
use Rattle.arrowstore.specs.declared.notes.Counted.{Counted}
use Rattle.arrowstore.specs.declared.open_command.OpenCommand.{OpenCommand}
use Rattle.arrowstore.specs.declared.open_command.OpenCommand.TheVariants as opened

-- the number of rows of the table of this name, if there is one
abbrev pub rows_of : PlainCatalogue → List ℕ → Option ℕ
rows_of c name = option_map row_count (entry_of c name)

-- how a command changes the rows of a table, and which table that is, for the commands that have a note
abbrev pub changed_by : OpenCommand → Option (RowChange × List ℕ)
changed_by (opened.Append name) = Some (Appends, name.now)
changed_by (opened.AppendComplete name) = Some (Appends, name.now)
changed_by (opened.AppendText name form) = Some (Appends, name.now)
changed_by (opened.Import name) = Some (Imports, name.now)
changed_by (opened.ImportNew name) = Some (Imports, name.now)
changed_by (opened.ImportComplete name is_new) = Some (Imports, name.now)
changed_by (opened.Change (commands.SaveAs from to query)) = Some (Saves, string_bytes to)
changed_by (opened.Change (commands.Drop name)) = Some (Drops, string_bytes name)
changed_by _ = None

-- what a note says of the number of rows of such a table before and after the command
abbrev pub IsNote : RowChange → (before after : Option ℕ) → Note → Type 0
IsNote Appends before after (notes.Appended rows) = (old : ℕ) × (before ≡ Some old) × (after ≡ Some (old + rows))
IsNote Imports before after (notes.Made rows) = (before ≡ None) × (after ≡ Some rows)
IsNote Imports before after (notes.Replaced rows replaced) = (before ≡ Some replaced) × (after ≡ Some rows)
IsNote Saves before after (notes.Saved rows) = (before ≡ None) × (after ≡ Some rows)
IsNote Drops before after (notes.Dropped rows) = (before ≡ Some rows) × (after ≡ None)
IsNote _ before after note = ⊥

-- a note of a command, by the tables of the store before and after it
abbrev pub IsNoteOf : OpenCommand → (old new : PlainCatalogue) → Note → Type 0
IsNoteOf command old new note =
    (change : RowChange) × (name : List ℕ) × (changed_by command ≡ Some (change, name)) × IsNote change (rows_of old name) (rows_of new name) note

-- what was counted before a command
abbrev pub IsCounted : OpenCommand → (old : PlainCatalogue) → Counted → Type 0
IsCounted command old counted =
    (changed_by command ≡ Some (counted.change, string_bytes counted.name)) × (counted.before ≡ rows_of old (string_bytes counted.name))

-- a note by what was counted, if anything was
abbrev pub IfCounted : Option Counted → (new : PlainCatalogue) → Note → Type 0
IfCounted None new note = ⊥
IfCounted (Some counted) new note = IsNote counted.change counted.before (rows_of new (string_bytes counted.name)) note
