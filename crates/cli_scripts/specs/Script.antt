-- Scripts: one command on each line (`docs/using.md`).
use Rattle.std.specs.Prelude.{◌≡◌, ◌≢◌, ◌⊎◌, ◌||◌, ◌&&◌, ◌<◌, ◌+◌, ℕ, Bool, true, false, if◌then◌else◌, List, [], ◌∷◌, length, take, get_or, codes, nat_eq, Option, Some, None, is_some, option_map, Result, Ok, Err}
use Rattle.std.specs.List.{list_all, starts_with}
use Rattle.std.specs.Option.{option_and_then}
use Rattle.std.specs.Str.{bytes_eq}
use Rattle.std.specs.Str.Parse.{digits_value}
use Rattle.arrow_schema.specs.Column.{Column}
use Rattle.field_texts.specs.Reported.{IsReported}
use Rattle.field_texts.specs.declared.parse.ParseError.{ParseError}
use Rattle.field_texts.specs.declared.parse.ParseError.TheVariants as fields
use Rattle.query.specs.ConditionText.{condition_of}
use Rattle.cli_requests.specs.Numbers.{is_number}
use Rattle.cli_scripts.specs.declared.script.ScriptError.{ScriptError}
use Rattle.cli_scripts.specs.declared.script.ScriptError.TheVariants.{BadLine, OutOfMemory}
use Rattle.cli_scripts.specs.Appending.{PlainForm, options_of, form_of}
use Rattle.cli_scripts.specs.Words.{lines_of, HaveWords}

-- what selects the rows that a command saves: the names of the columns, with commas between them, the maximum number of rows, and the texts of conditions
pub record PlainRows : Type 0 where
  pub columns : Option (List ℕ)
  pub limit : Option ℕ
  pub conditions : List (List ℕ)

-- a command of a script; `create` has the texts of its fields
pub data PlainLine : Type 0 where
  create : (name : List ℕ) → (texts : List (List ℕ)) → PlainLine
  -- the file has a stream, which must have its end if it is to be complete
  import_file : (name file : List ℕ) → (complete : Bool) → PlainLine
  append_file : (name file : List ℕ) → (complete : Bool) → PlainLine
  -- the file has a text of rows in this form
  append_text : (name file : List ℕ) → (form : PlainForm) → PlainLine
  save : (from to : List ℕ) → (rows : PlainRows) → PlainLine
  rename : (from to : List ℕ) → PlainLine
  drop : (name : List ℕ) → PlainLine
  compact : PlainLine
  upgrade : PlainLine
  reopen : PlainLine
  -- the lines from `begin` to `commit` are one commit
  begin_list : PlainLine
  commit_list : PlainLine

-- ---- what the words ask for

-- what begins and ends a list
unfoldable pub list_bound : List ℕ → Option PlainLine
list_bound word = if bytes_eq (codes "begin") word then Some begin_list else if bytes_eq (codes "commit") word then Some commit_list else None

unfoldable pub alone : List ℕ → Option PlainLine
alone word =
    if bytes_eq (codes "compact") word then Some compact
    else if bytes_eq (codes "upgrade") word then Some upgrade
    else if bytes_eq (codes "reopen") word then Some reopen else list_bound word

unfoldable pub with_name : List ℕ → List ℕ → Option PlainLine
with_name word name = if bytes_eq (codes "drop") word then Some (drop name) else None

unfoldable pub with_two : List ℕ → List ℕ → List ℕ → Option PlainLine
with_two word first second =
    if bytes_eq (codes "import") word then Some (import_file first second false)
    else if bytes_eq (codes "rename") word then Some (rename first second) else None

unfoldable pub complete_import : (word first second option : List ℕ) → Option PlainLine
complete_import word first second option =
    if bytes_eq (codes "import") word && bytes_eq (codes "--complete") option then Some (import_file first second true) else None

unfoldable pub other_of : List ℕ → List (List ℕ) → Option PlainLine
other_of word [] = alone word
other_of word (name ∷ []) = with_name word name
other_of word (first ∷ second ∷ []) = with_two word first second
other_of word (first ∷ second ∷ option ∷ []) = complete_import word first second option
other_of word (first ∷ second ∷ third ∷ fourth ∷ more) = None

-- rows are appended from a stream, or from a text in this form
abbrev pub append_as : (name file : List ℕ) → Option PlainForm → PlainLine
append_as name file None = append_file name file false
append_as name file (Some form) = append_text name file form

-- `--complete` stands alone behind the file
unfoldable pub is_complete : List (List ℕ) → Bool
is_complete [] = false
is_complete (word ∷ []) = bytes_eq (codes "--complete") word
is_complete (word ∷ next ∷ more) = false

unfoldable pub append_of : List (List ℕ) → Option PlainLine
append_of (name ∷ file ∷ words) =
    if is_complete words then Some (append_file name file true) else option_map (append_as name file) (option_and_then form_of (options_of words))
append_of (word ∷ []) = None
append_of [] = None

unfoldable pub append_or_other : List ℕ → List (List ℕ) → Option PlainLine
append_or_other word arguments = if bytes_eq (codes "append") word then append_of arguments else other_of word arguments

unfoldable pub create_of : List (List ℕ) → Option PlainLine
create_of [] = None
create_of (name ∷ texts) = Some (create name texts)

-- ---- the rows to be saved: `--columns` and a word, and `--limit` and a number, each once at most and in any order; then `--`, if it is there, and then the
-- conditions

-- the word behind this option, if the words begin with it, and the words after that one; or the words as they are
unfoldable pub option_at : List ℕ → List (List ℕ) → Option (List ℕ) × List (List ℕ)
option_at option [] = (None, [])
option_at option (word ∷ []) = (None, word ∷ [])
option_at option (word ∷ value ∷ more) = if bytes_eq option word then (Some value, more) else (None, word ∷ value ∷ more)

-- an option that was found before, or else the one that the words begin with
unfoldable pub option_or_at : Option (List ℕ) → List ℕ → List (List ℕ) → Option (List ℕ) × List (List ℕ)
option_or_at None option words = option_at option words
option_or_at (Some value) option words = (Some value, words)

-- the limit that a text states, if there is one; or none, if it is no number
unfoldable pub limit_of : Option (List ℕ) → Option (Option ℕ)
limit_of None = Some None
limit_of (Some text) = if is_number text then Some (Some (digits_value 10 text)) else None

unfoldable pub after_dashes : List (List ℕ) → List (List ℕ)
after_dashes [] = []
after_dashes (word ∷ more) = if bytes_eq (codes "--") word then more else word ∷ more

unfoldable pub rows_of : List (List ℕ) → Option PlainRows
rows_of words =
    let first = option_at (codes "--columns") words in
    let limit = option_at (codes "--limit") first.1 in
    let columns = option_or_at first.0 (codes "--columns") limit.1 in
    option_map (λ number. record { columns = columns.0; limit = number; conditions = after_dashes columns.1 }) (limit_of limit.0)

unfoldable pub save_of : List (List ℕ) → Option PlainLine
save_of (from ∷ to ∷ words) = option_map (λ rows. save from to rows) (rows_of words)
save_of (word ∷ []) = None
save_of [] = None

unfoldable pub save_or_other : List ℕ → List (List ℕ) → Option PlainLine
save_or_other word arguments = if bytes_eq (codes "save") word then save_of arguments else append_or_other word arguments

unfoldable pub command_of : List ℕ → List (List ℕ) → Option PlainLine
command_of word arguments = if bytes_eq (codes "create") word then create_of arguments else save_or_other word arguments

-- ---- the names of tables: a word that looks like an option is none, as on a command line, unless `--` stands before the names (POSIX.1, Base Definitions
-- 12.2, guideline 10)

-- two hyphens (45), and whatever is after them
abbrev pub is_long_option : List ℕ → Bool
is_long_option word = starts_with nat_eq word (45 ∷ 45 ∷ [])

-- the line has such a word for the name of a table
unfoldable pub names_option : PlainLine → Bool
names_option (create name texts) = is_long_option name
names_option (import_file name file complete) = is_long_option name
names_option (append_file name file complete) = is_long_option name
names_option (append_text name file form) = is_long_option name
names_option (save from to rows) = is_long_option from || is_long_option to
names_option (rename from to) = is_long_option from || is_long_option to
names_option (drop name) = is_long_option name
names_option _ = false

unfoldable pub without_options : PlainLine → Option PlainLine
without_options line = if names_option line then None else Some line

unfoldable pub named_line : List ℕ → List (List ℕ) → Option PlainLine
named_line word [] = command_of word []
named_line word (first ∷ names) =
    if bytes_eq (codes "--") first then command_of word names else option_and_then without_options (command_of word (first ∷ names))

unfoldable pub line_of : List (List ℕ) → Option PlainLine
line_of [] = None
line_of (word ∷ arguments) = named_line word arguments

-- ---- the texts of fields and conditions

-- whether they state columns or are refused
abbrev pub StateFields : Bool → List (List ℕ) → Type 0
StateFields true texts = (columns : List Column) × IsReported texts (Ok columns)
StateFields false texts = (e : ParseError) × (e ≢ fields.OutOfMemory) × IsReported texts (Err e)

-- each text has the form of a condition
abbrev pub are_conditions : List (List ℕ) → Bool
are_conditions texts = list_all (λ text. is_some (condition_of text)) texts

-- whether the texts of a line can be parsed
abbrev pub AreTested : Bool → PlainLine → Type 0
AreTested tested (create name texts) = StateFields tested texts
AreTested tested (save from to rows) = are_conditions rows.conditions ≡ tested
AreTested true _ = Unit {0}
AreTested false _ = ⊥

-- ---- a line

-- these words are those of a line
abbrev pub HasLine : Option (List (List ℕ)) → PlainLine → Type 0
HasLine None line = ⊥
HasLine (Some words) line = (line_of words ≡ Some line) × AreTested true line

-- why a line has no command: it has no words, or these ask for nothing, or a text of its fields or conditions is refused
abbrev pub IsRefused : Option PlainLine → Type 0
IsRefused None = Unit {0}
IsRefused (Some line) = AreTested false line

abbrev pub HasNone : Option (List (List ℕ)) → Type 0
HasNone None = Unit {0}
HasNone (Some words) = IsRefused (line_of words)

abbrev pub ReadsLine : Option (List (List ℕ)) → Option PlainLine → Type 0
ReadsLine words (Some line) = HasLine words line
ReadsLine words None = HasNone words

-- ---- lines

abbrev pub HaveLines : List (Option (List (List ℕ))) → List PlainLine → Type 0
HaveLines [] [] = Unit {0}
HaveLines (words ∷ more) (line ∷ lines) = HasLine words line × HaveLines more lines
HaveLines [] (line ∷ lines) = ⊥
HaveLines (words ∷ more) [] = ⊥

-- ---- lines that change tables, and a script of such lines, which is applied as one commit

abbrev pub changes_tables : PlainLine → Bool
changes_tables compact = false
changes_tables upgrade = false
changes_tables reopen = false
changes_tables begin_list = false
changes_tables commit_list = false
changes_tables _ = true

-- these words are those of such a line
abbrev pub HasChange : Option (List (List ℕ)) → PlainLine → Type 0
HasChange words line = HasLine words line × (changes_tables line ≡ true)

-- they have no line, or that of another command
abbrev pub HasNoChange : Option (List (List ℕ)) → Type 0
HasNoChange words = HasNone words ⊎ ((line : PlainLine) × HasLine words line × (changes_tables line ≡ false))

abbrev pub ReadsChange : Option (List (List ℕ)) → Option PlainLine → Type 0
ReadsChange words (Some line) = HasChange words line
ReadsChange words None = HasNoChange words

abbrev pub HaveChanges : List (Option (List (List ℕ))) → List PlainLine → Type 0
HaveChanges texts lines = HaveLines texts lines × (list_all changes_tables lines ≡ true)

-- the first line that does not change tables; its number counts from 1
pub record IsNoChange (texts : List (Option (List (List ℕ)))) (number : ℕ) : Type 0 where
  pub index : ℕ
  pub counted : number ≡ index + 1
  pub among : index < length texts
  pub front : List PlainLine
  pub before : HaveChanges (take index texts) front
  pub bad : HasNoChange (get_or texts index None)

-- the lines that words have, or the first line that does not change tables
abbrev pub AreChanges : List (Option (List (List ℕ))) → Result (List PlainLine) ScriptError → Type 0
AreChanges texts (Ok lines) = HaveChanges texts lines
AreChanges texts (Err (BadLine number)) = IsNoChange texts number
AreChanges texts (Err OutOfMemory) = Unit {0}

-- the lines of a script that is applied as one commit, or its first line that can't be
abbrev pub IsScriptOfChanges : List ℕ → Result (List PlainLine) ScriptError → Type 0
IsScriptOfChanges script parsed = (texts : List (Option (List (List ℕ)))) × HaveWords (lines_of script) texts × AreChanges texts parsed
