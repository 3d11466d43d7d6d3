-- What the program answers to several commands as one, of which some are texts until their turn comes.
use Rattle.std.specs.Prelude.{◌≡◌, ◌⊎◌, ◌+◌, ◌<◌, ◌≤◌, ℕ, Bool, List, take, length, slice_get, Option, Some, None, Result, Ok, Err, IfErr, IsErrAnd}
use Rattle.sector_dev.specs.Disk.{Story, Image, now, shown_image}
use Rattle.sector_dev.specs.declared.device.SectorDevice.{Ghosts}
use Rattle.cells.specs.Cell.{Cell}
use Rattle.catalogue.specs.Entries.{PlainEntry, PlainCatalogue, runs_of}
use Rattle.catalogue.specs.Edits.{entry_of}
use Rattle.text_import.specs.declared.form.TextForm.{TextForm}
use Rattle.text_import.specs.declared.refusal.Refused.{Refused}
use Rattle.text_import.specs.Form.{rows_of_text}
use Rattle.tables.specs.Commands.{PlainCommand, append_rows, all_of, commands_of}
use Rattle.tables.specs.View.{command_of}
use Rattle.tables.specs.declared.refusal.Refusal.TheVariants as tables
use Rattle.store.specs.declared.store.Store as stores
use Rattle.store.specs.declared.applying_all.ListRefusal.{ListRefusal}
use Rattle.store.specs.declared.applying_all.ListRefusal.TheVariants.{At, Whole}
use Rattle.store_runs.specs.Calls.{counted}
use Rattle.store_runs.specs.Deciding.{AreBefore}
use Rattle.store_changes.specs.Verdicts.{LeadsThrough}
use Rattle.store.specs.Answering.{Applies}
use Rattle.store.specs.Fits.{device_of, listed_in}
use Rattle.store.specs.Lists.{as_one, ended_list, NamesLine}
use Rattle.cli_reports.specs.declared.refusal.Refusal.{Refusal}
use Rattle.cli_reports.specs.declared.refusal.Refusal.TheVariants.{Io, Line, TextLine, Store, OutOfMemory}
use Rattle.cli_reports.specs.declared.refusal.Side.TheVariants.{Output}
use Rattle.cli_commands.specs.declared.applying.ListedCommand.{ListedCommand}
use Rattle.cli_commands.specs.declared.applying.ListedCommand.TheVariants.{Known, Text}

-- ---- the commands of lines

-- a text has these rows for the schema of the table with this entry; where there is no table it is not read, and the store refuses whatever rows it may have
abbrev pub TextHasRows : TextForm → Option PlainEntry → (text : List ℕ) → List (List Cell) → Type 0
TextHasRows form None text rows = Unit {0}
TextHasRows form (Some entry) text rows = rows_of_text form entry.schema text ≡ Ok rows

-- the command of a line, on the catalogue when its turn comes
abbrev pub IsOfLine : PlainCatalogue → ListedCommand → PlainCommand → Type 0
IsOfLine c (Known known) command = command ≡ command_of known
IsOfLine c (Text name form text) command =
    (rows : List (List Cell)) × TextHasRows form (entry_of c name.now) text.items rows × (command ≡ append_rows name.now rows)

-- the command at this place is that of the line there, on the catalogue to which the commands before it lead
pub record IsListedAt (tells : Bool) (image : Image) (c : PlainCatalogue) (lines : List ListedCommand) (commands : List PlainCommand)
    (place : ℕ) : Type 0 where
  pub line : ListedCommand
  pub at : slice_get lines place ≡ Some line
  pub command : PlainCommand
  pub has : slice_get commands place ≡ Some command
  pub from : ℕ
  pub before : AreBefore from (runs_of c)
  pub next : ℕ
  pub over : Image
  pub made : PlainCatalogue
  pub leads : LeadsThrough tells from image c (take place commands) next over made
  pub is : IsOfLine made line command

-- these are the commands of these lines, one after another from this catalogue on, if reads of the device show this image
pub record AreListed (tells : Bool) (image : Image) (c : PlainCatalogue) (lines : List ListedCommand) (commands : List PlainCommand) : Type 0 where
  pub count : length commands ≡ length lines
  pub each : (place : ℕ) → place < length lines → IsListedAt tells image c lines commands place

-- ---- the answer

-- the program's answer follows the store's: what is done is reported as done, unless the output fails; a refusal is the store's, with the number of the
-- refused command, counted from 1, where the store names its place
abbrev pub FollowsList : Result (Unit {0}) ListRefusal → Result (Unit {0}) Refusal → Type 0
FollowsList (Ok done) (Ok unit) = Unit {0}
FollowsList (Ok done) (Err refusal) = refusal ≡ Io Output
FollowsList (Err e) (Ok unit) = ⊥
FollowsList (Err (At place r)) (Err refusal) = refusal ≡ Line (place + 1) r
FollowsList (Err (Whole r)) (Err refusal) = refusal ≡ Store r

-- how many of the lines the store was given: all, if it accepts them or refuses them together, and else those up to the refused one. If memory was refused, or
-- its device failed before anything was written, it may have been fewer, and a halted store is given none
abbrev pub GivesLines : (unwritten : Type 0) → (lines count : ℕ) → Result (Unit {0}) ListRefusal → Type 0
GivesLines unwritten lines count (Err (At place r)) = count ≡ place + 1
GivesLines unwritten lines count (Err (Whole tables.Device)) = (count ≡ lines) ⊎ ((count ≤ lines) × unwritten)
GivesLines unwritten lines count (Err (Whole tables.OutOfMemory)) = count ≤ lines
GivesLines unwritten lines count (Err (Whole tables.Halted)) = count ≡ 0
GivesLines unwritten lines count _ = count ≡ lines

-- the store was given the commands of so many lines and gave this answer, and the program's answer follows it
pub record AnswersLines (tells : Bool) (image : Image) (c : PlainCatalogue) (lines : List ListedCommand) (unwritten : Type 0)
    (P : List PlainCommand → Result (Unit {0}) ListRefusal → Type 0) (result : Result (Unit {0}) Refusal) : Type 0 where
  pub count : ℕ
  pub commands : List PlainCommand
  pub listed : AreListed tells image c (take count lines) commands
  pub answer : Result (Unit {0}) ListRefusal
  pub given : GivesLines unwritten (length lines) count answer
  pub answers : P commands answer
  pub follows : FollowsList answer result

-- so it was; or the lines were refused while one of them was read, and `before` holds of the refusal
abbrev pub HandsLines : (tells : Bool) → Image → PlainCatalogue → List ListedCommand → (unwritten : Type 0)
    → (List PlainCommand → Result (Unit {0}) ListRefusal → Type 0) → (before : Refusal → Type 0) → Result (Unit {0}) Refusal → Type 0
HandsLines tells image c lines unwritten P before result = IsErrAnd result before ⊎ AnswersLines tells image c lines unwritten P result

-- a text is refused so, for the schema that its table has in this catalogue
abbrev pub TextIsRefused : PlainCatalogue → ListedCommand → Refused → Type 0
TextIsRefused c (Known known) refused = ⊥
TextIsRefused c (Text name form text) refused =
    (entry : PlainEntry) × (entry_of c name.now ≡ Some entry) × (rows_of_text form entry.schema text.items ≡ Err refused)

-- the text of the line at this place is refused, for the schema that its table has in the catalogue to which the commands of the lines before it lead
pub record RefusesTextAt (tells : Bool) (image : Image) (c : PlainCatalogue) (lines : List ListedCommand) (place : ℕ) (refused : Refused) : Type 0 where
  pub commands : List PlainCommand
  pub listed : AreListed tells image c (take place lines) commands
  pub from : ℕ
  pub before : AreBefore from (runs_of c)
  pub next : ℕ
  pub over : Image
  pub made : PlainCatalogue
  pub leads : LeadsThrough tells from image c commands next over made
  pub line : ListedCommand
  pub at : slice_get lines place ≡ Some line
  pub refuses : TextIsRefused made line refused

-- why the lines are refused while one of them is read: its text is refused, or memory is
abbrev pub RefusesLines : (tells : Bool) → Image → PlainCatalogue → List ListedCommand → Refusal → Type 0
RefusesLines tells image c lines (TextLine number refused) = (place : ℕ) × (number ≡ place + 1) × RefusesTextAt tells image c lines place refused
RefusesLines tells image c lines OutOfMemory = Unit {0}
RefusesLines tells image c lines _ = ⊥

-- how a store answers several commands as one: what `Store::apply_all` promises of every store and every device
pub record AnswersList {D : Type 0} {g : Ghosts D} (size : D → ℕ) (story : D → Story) (failed : D → ℕ) (tells : Bool) (commands : List PlainCommand)
    (answer : Result (Unit {0}) ListRefusal) (old new : stores.Store D g) : Type 0 where
  -- they are answered as one command: all of them are done, or the tables stay as they are
  pub applies : Applies size story tells old (all_of (commands_of commands)) (as_one answer) new
  -- a refusal that names a place is that of the command there, after those before it
  pub line : IfErr answer (NamesLine tells (shown_image (now (story (device_of old)))) (listed_in old) commands)
  -- the device keeps its size, and its failure is counted
  pub size_kept : size (device_of new) ≡ size (device_of old)
  pub count : failed (device_of new) ≡ counted (ended_list answer) (failed (device_of old))
