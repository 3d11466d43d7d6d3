-- The arguments of the program: the command `recode`, which takes no arguments of its own, and requests for help.
use Rattle.std.specs.Prelude.{◌≡◌, ◌⊎◌, ◌≤◌, ◌||◌, Bool, true, false, List, [], ◌∷◌, length, codes, Some, slice_get}
use Rattle.std.specs.Str.{bytes_eq, chars}
use Rattle.clap.specs.Words.{App, Text, new_app, with_subcommand}
use Rattle.cli_reports.specs.OwnTexts.{is_own, is_version_word}

abbrev pub recode_command : App
recode_command = new_app (codes "recode")

-- a command has to be given
abbrev pub program_command : App
program_command = with_subcommand (record { top = record (new_app (codes "arrowstore")).top { subcommand_required = true }; subs = [] }) recode_command.top

-- the program's name, whatever it is, and `recode`; a `--` may end the arguments
unfoldable pub AreRecode : List Text → Type 0
AreRecode arguments =
    (name : Text) × ((arguments ≡ name ∷ codes "recode" ∷ []) ⊎ (arguments ≡ name ∷ codes "recode" ∷ codes "--" ∷ []))

-- `--help`, or `-h` and whatever follows it in the word
pub data IsHelpFlag (word : Text) : Type 0 where
  long : word ≡ codes "--help" → IsHelpFlag word
  short : (letters : Text) → word ≡ 45 ∷ letters → slice_get (chars letters) 0 ≡ Some 104 → IsHelpFlag word

-- a word follows `--version` or `-V`, or more than one follows `help`
unfoldable pub have_extra_words : List Text → Bool
have_extra_words [] = false
have_extra_words (name ∷ []) = false
have_extra_words (name ∷ word ∷ []) = false
have_extra_words (name ∷ word ∷ other ∷ []) = is_version_word word
have_extra_words (name ∷ word ∷ other ∷ more ∷ rest) = is_version_word word || bytes_eq (codes "help") word

-- the program's name, `help` and one more word
unfoldable pub asks_topic : List Text → Bool
asks_topic [] = false
asks_topic (name ∷ []) = false
asks_topic (name ∷ word ∷ []) = false
asks_topic (name ∷ word ∷ topic ∷ []) = bytes_eq (codes "help") word
asks_topic (name ∷ word ∷ topic ∷ more ∷ rest) = false

-- the command `help` with one word at most, or a flag that asks for help, of the program or of `recode`
pub data AskForHelp (arguments : List Text) : Type 0 where
  command : (name : Text) (topics : List Text) → length topics ≤ 1 → arguments ≡ name ∷ codes "help" ∷ topics → AskForHelp arguments
  flag : (name word : Text) (rest : List Text) → arguments ≡ name ∷ word ∷ rest → IsHelpFlag word → AskForHelp arguments
  flag_of_recode : (name word : Text) (rest : List Text) → arguments ≡ name ∷ codes "recode" ∷ word ∷ rest → IsHelpFlag word → AskForHelp arguments

-- arguments that are right without a store: those of `recode`, and those that ask for help or for one of the program's own texts
abbrev pub AreRight : List Text → Type 0
AreRight arguments = AreRecode arguments ⊎ AskForHelp arguments ⊎ (is_own arguments ≡ true)
