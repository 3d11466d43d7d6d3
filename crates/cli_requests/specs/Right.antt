-- The command lines that are right, and what is read from them.
use Rattle.std.specs.Prelude.{◌≡◌, ◌⊎◌, ◌==◌, ◌&&◌, ◌++◌, Bool, true, false, List, [], ◌∷◌, length, drop, nat_le, codes, Option, Some, None, unwrap_or}
use Rattle.std.specs.Option.{option_map_or}
use Rattle.std.specs.Str.{bytes_eq}
use Rattle.clap.specs.Words.{App, Row, Text, fault_of, first_of, first_value, matches_of, one_of, one_text, rows_of}
use Rattle.clap.specs.declared.parser.matches.Found.{Found}
use Rattle.cli_requests.specs.Apps.{HasFound, IsOwnApp, parameters_of}
use Rattle.cli_requests.specs.Numbers.{is_number, is_number_if_any}
use Rattle.cli_requests.specs.Operands.{operands}
use Rattle.cli_requests.specs.StoreWords.{is_store_word, first_word}
use Rattle.cli_requests.specs.declared.command_parameters.Parameters.{Parameters}
use Rattle.cli_requests.specs.declared.command_parameters.Parameters.TheVariants as parameters
use Rattle.cli_requests.specs.declared.store_words.StoreRequest.{StoreRequest}

-- a file, and a number of sectors or none; two files and a number of sectors
abbrev pub are_file_and_number : List Text → Bool
are_file_and_number (file ∷ []) = true
are_file_and_number (file ∷ number ∷ []) = is_number number
are_file_and_number _ = false

abbrev pub are_files_and_number : List Text → Bool
are_files_and_number (file ∷ new ∷ number ∷ []) = is_number number
are_files_and_number _ = false

-- the operands that a command takes; no script is played on a device in memory without an option
abbrev pub takes : Parameters → List Text → Bool
takes parameters.Nothing words = length words == 1
takes parameters.FileAndForm words = length words == 1
takes parameters.FileAndSteps words = length words == 1
takes parameters.FileAndDigests words = length words == 1
takes parameters.FileAndDeletion words = length words == 1
takes parameters.Table words = length words == 2
takes parameters.TableToDescribe words = length words == 2
takes parameters.TableToImport words = length words == 2
takes parameters.TableAndNewName words = length words == 3
takes parameters.Sectors words = are_file_and_number words
takes parameters.NewStore words = are_files_and_number words
takes parameters.Script words = length words == 2
takes parameters.TableAndFields words = nat_le 2 (length words)
takes parameters.TableAndRows words = length words == 2
takes parameters.TableAndQuery words = nat_le 2 (length words)
takes parameters.ScriptAndFaults words = false

-- the program's name, a command of a store, and operands that it takes
unfoldable pub are_right : List Text → Bool
are_right [] = false
are_right (name ∷ []) = false
are_right (name ∷ word ∷ rest) = is_store_word word && option_map_or (takes (parameters_of word)) (operands rest) false

-- what a crash leaves, as a word: a number has the bits of the sectors that are new, and after `lost:` of those that are lost; `lost` alone means
-- all
abbrev pub IsLost : Text → Type 0
IsLost word = (word ≡ codes "lost") ⊎ ((number : Text) × (word ≡ codes "lost:" ++ number) × (is_number number ≡ true))

abbrev pub NamesChoice : Text → Type 0
NamesChoice word = (word ≡ codes "old") ⊎ ((word ≡ codes "new") ⊎ ((is_number word ≡ true) ⊎ IsLost word))

-- what is found for a command can be asked for: numbers have digits alone, fields are not given beside a table that has them, only a stream must have its
-- end, saved rows are not asked for as objects, and the choice is valid
pub record IsTakable (word : Text) (first : Text → Option Text) (flag : Text → Option Text) : Type 0 where
  pub sectors : bytes_eq (codes "copy") word ≡ true → is_number (unwrap_or (first (codes "SECTORS")) []) ≡ true
  pub room : bytes_eq (codes "format") word ≡ true → is_number_if_any (first (codes "SECTORS")) ≡ true
  pub version : bytes_eq (codes "format") word ≡ true → is_number_if_any (first (codes "format-version")) ≡ true
  pub like : bytes_eq (codes "create") word ≡ true → (first (codes "like") ≡ None) ⊎ (first (codes "FIELD") ≡ None)
  pub complete : bytes_eq (codes "append") word ≡ true
      → (bytes_eq (unwrap_or (first (codes "as")) []) (codes "stream") ≡ true) ⊎ (flag (codes "complete") ≡ Some (codes "false"))
  pub limit : bytes_eq (codes "query") word ≡ true → is_number_if_any (first (codes "limit")) ≡ true
  pub steps : bytes_eq (codes "compact") word ≡ true → is_number_if_any (first (codes "steps")) ≡ true
  pub printed : bytes_eq (codes "query") word ≡ true → (first (codes "save") ≡ None) ⊎ (flag (codes "objects") ≡ Some (codes "false"))
  pub size : bytes_eq (codes "replay") word ≡ true → is_number_if_any (first (codes "sectors")) ≡ true
  pub fail : bytes_eq (codes "replay") word ≡ true → is_number_if_any (first (codes "fail")) ≡ true
  pub stop : bytes_eq (codes "replay") word ≡ true → is_number_if_any (first (codes "stop")) ≡ true
  pub choice : bytes_eq (codes "replay") word ≡ true → NamesChoice (unwrap_or (first (codes "choice")) [])
  pub played : bytes_eq (codes "replay") word ≡ true → is_number_if_any (first (codes "format-version")) ≡ true

abbrev pub IsFoundTakable : Text → Found → Type 0
IsFoundTakable word found = IsTakable word (first_value found) (one_text found)

abbrev pub AreRowsTakable : Text → List Row → Type 0
AreRowsTakable word rows = IsTakable word (λ id. first_of id rows) (λ id. one_of id rows)

-- `clap` finds no fault in the words of the command, by its own definition, and what it finds can be asked for
abbrev pub AreTaken : List Text → Type 0
AreTaken arguments = (command : App) → IsOwnApp (first_word arguments) command
    → (fault_of command (drop 1 arguments) ≡ []) × AreRowsTakable (first_word arguments) (matches_of command (drop 1 arguments))

-- the right words of a command: only operands, which it takes, or whatever `clap` accepts, with options too
abbrev pub AreRightWords : List Text → Type 0
AreRightWords arguments = (are_right arguments ≡ true) ⊎ AreTaken arguments

-- the request is what `clap` reads by its own definitions: it finds no fault in the words, and the request has everything that it finds
pub record IsReadFrom (arguments : List Text) (request : StoreRequest) : Type 0 where
  pub command : App
  pub own : IsOwnApp (first_word arguments) command
  pub faultless : fault_of command (drop 1 arguments) ≡ []
  pub found : Found
  pub matches : rows_of found ≡ matches_of command (drop 1 arguments)
  pub has : HasFound found request
