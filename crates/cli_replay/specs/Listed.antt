-- The commands of a script that is applied as one commit.
use Rattle.std.specs.Prelude.{◌≡◌, ◌⊎◌, ℕ, max, true, false, List, [], ◌∷◌, length, Option, Ok, Err}
use Rattle.std.specs.List.{AllByRecursion}
use Rattle.tables.specs.View.{command_of}
use Rattle.cli_commands.specs.declared.applying.ListedCommand.{ListedCommand}
use Rattle.cli_commands.specs.declared.applying.ListedCommand.TheVariants.{Known, Text}
use Rattle.cli_reports.specs.declared.refusal.Refusal.{Refusal}
use Rattle.cli_reports.specs.declared.refusal.Refusal.TheVariants.{Io, BadScript, NoEnd, TooManyBytes, OutOfMemory}
use Rattle.cli_reports.specs.declared.refusal.Side.TheVariants.{File}
use Rattle.cli_scripts.specs.declared.script.ScriptError.TheVariants.{BadLine}
use Rattle.cli_scripts.specs.Items.{PlainItem, one, listed, is_alone, is_known_change}
use Rattle.cli_scripts.specs.Plain.{plain_form}
use Rattle.cli_scripts.specs.Words.{is_ended}
use Rattle.cli_scripts.specs.Script.{IsScriptOfChanges, PlainLine, append_text, AreTested, changes_tables}
use Rattle.cli_replay.specs.Replay.{IsCommandOfLine, IsOfFile, IsOfStreams}

-- the texts of a line can be parsed
abbrev pub IsTested : PlainLine → Type 0
IsTested line = AreTested true line

-- a line that changes tables, whose texts can be parsed
abbrev pub IsChange : PlainLine → Type 0
IsChange line = IsTested line × (changes_tables line ≡ true)

-- one whose command is known before the tables are
abbrev pub IsKnownChange : PlainLine → Type 0
IsKnownChange line = IsTested line × (is_known_change line ≡ true)

-- an item whose call can be made
abbrev pub IsPlayable : PlainItem → Type 0
IsPlayable (one number line) = IsTested line × (is_alone line ≡ true)
IsPlayable (listed list) = AllByRecursion IsKnownChange list.lines

-- ---- the commands of a script, as far as they are known before the tables are

-- that of a line that changes tables: a text is the whole of some file, and its form is that of the line
abbrev pub IsListedOfLine : {F : Type 0} → (remaining : F → Option (List ℕ)) → PlainLine → ListedCommand → Type 0
IsListedOfLine remaining (append_text name path form) (Text listed_name listed_form text) =
    (listed_name.now ≡ name) × (plain_form listed_form ≡ form) × IsOfFile remaining text.items
IsListedOfLine remaining (append_text name path form) (Known command) = ⊥
IsListedOfLine remaining line (Known command) = IsCommandOfLine remaining line (command_of command)
IsListedOfLine remaining line (Text listed_name listed_form text) = ⊥

-- each line has its command
abbrev pub AreListedOfLines : {F : Type 0} → (remaining : F → Option (List ℕ)) → List PlainLine → List ListedCommand → Type 0
AreListedOfLines remaining [] [] = Unit {0}
AreListedOfLines remaining (line ∷ lines) (command ∷ more) = IsListedOfLine remaining line command × AreListedOfLines remaining lines more
AreListedOfLines remaining _ _ = ⊥

-- a script with these lines has these commands
pub record HasCommands {F : Type 0} (remaining : F → Option (List ℕ)) (script : List ℕ) (commands : List ListedCommand) : Type 0 where
  pub lines : List PlainLine
  pub parsed : IsScriptOfChanges script (Ok lines)
  pub ended : is_ended script ≡ true
  pub are : AreListedOfLines remaining lines commands

-- why the files of lines are not read: one can't be read, or memory is refused, or a text is too long, or a stream lacks the end that it is to have
abbrev pub IsOfFiles : Refusal → Type 0
IsOfFiles TooManyBytes = Unit {0}
IsOfFiles refusal = IsOfStreams refusal

-- why a script has none: the line of this number is the first that is no command or changes no tables; or all lines are right, and the last one lacks its line
-- feed, or there is no first line, or a file that one of them names can't be read, or has a text that is too long, or a stream without the end that it is to
-- have; or memory is refused
abbrev pub RefusesCommands : (script : List ℕ) → Refusal → Type 0
RefusesCommands script (BadScript number) =
    IsScriptOfChanges script (Err (BadLine number))
    ⊎ ((lines : List PlainLine) × IsScriptOfChanges script (Ok lines) × (is_ended script ≡ false) × (number ≡ max (length lines) 1))
RefusesCommands script (Io File) = (lines : List PlainLine) × IsScriptOfChanges script (Ok lines)
RefusesCommands script TooManyBytes = (lines : List PlainLine) × IsScriptOfChanges script (Ok lines)
RefusesCommands script NoEnd = (lines : List PlainLine) × IsScriptOfChanges script (Ok lines)
RefusesCommands script OutOfMemory = Unit {0}
RefusesCommands script _ = ⊥
