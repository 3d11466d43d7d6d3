-- The operands of a command, by the conventions for utilities (POSIX.1, Base Definitions 12.2, guidelines 9 and 10), and what they name.
use Rattle.std.specs.Prelude.{◌≡◌, ◌==◌, ◌||◌, Bool, false, if◌then◌else◌, List, [], ◌∷◌, drop, codes, Option, Some, None, IfSome, option_map}
use Rattle.std.specs.Str.{bytes_eq}
use Rattle.std.specs.Str.Parse.{digits_value}
use Rattle.clap.specs.Walk.{texts}
use Rattle.clap.specs.Words.{Text}
use Rattle.commit.specs.declared.sector.FormatVersion.{FormatVersion}
use Rattle.commit.specs.declared.sector.FormatVersion.TheVariants.{One, Two}
use Rattle.civil_days.specs.declared.date_form.DateForm.TheVariants.{Numbers}
use Rattle.query.specs.declared.row_form.RowShape.TheVariants.{Array}
use Rattle.cli_requests.specs.Numbers.{IsNumber}
use Rattle.cli_requests.specs.declared.store_words.StoreCommand.{StoreCommand}
use Rattle.cli_requests.specs.declared.store_words.StoreCommand.TheVariants as commands
use Rattle.cli_requests.specs.declared.store_words.StoreRequest.{StoreRequest}
use Rattle.cli_requests.specs.declared.store_words.StoreRequest.TheVariants as requests

-- a hyphen (45) with more after it
abbrev pub is_option : Text → Bool
is_option [] = false
is_option (c ∷ []) = false
is_option (c ∷ d ∷ rest) = c == 45

-- the operands among the words after a command, if these have no options; what follows the first `--` is an operand, whatever it looks like
unfoldable pub operands : List Text → Option (List Text)
operands [] = Some []
operands (word ∷ rest) = if bytes_eq word (codes "--") then Some rest else (if is_option word then None else option_map (λ others. word ∷ others)
    (operands rest))

-- the words after the program's name and the command
abbrev pub words_after_command : List Text → List Text
words_after_command arguments = drop 2 arguments

-- the commands that name a store alone, and those that name a table in it, without options
unfoldable pub names_file : Text → Bool
names_file word =
    bytes_eq (codes "tables") word || (bytes_eq (codes "check") word || (bytes_eq (codes "upgrade") word || bytes_eq (codes "have") word))

unfoldable pub names_table : Text → Bool
names_table word =
    bytes_eq (codes "drop") word || (bytes_eq (codes "export") word || bytes_eq (codes "salvage") word)

-- the version of a store that the word of an option names; without the option, the newest
abbrev pub version_named : Option Text → FormatVersion
version_named None = Two
version_named (Some word) = if digits_value 10 word == 1 then One else Two

-- the names, fields and conditions that a command has after its file
abbrev pub names_in : StoreCommand → List Text
names_in (commands.Create name fields) = name.now ∷ texts fields.items
names_in (commands.CreateLike name like) = name.now ∷ []
names_in (commands.Import name) = name.now ∷ []
names_in (commands.ImportNew name) = name.now ∷ []
names_in (commands.ImportComplete name is_new) = name.now ∷ []
names_in (commands.Append name) = name.now ∷ []
names_in (commands.AppendComplete name) = name.now ∷ []
names_in (commands.AppendText name form) = name.now ∷ []
names_in (commands.Query name query form) = name.now ∷ texts query.conditions.items
names_in (commands.SaveAs from to query) = from.now ∷ texts query.conditions.items
names_in (commands.Rename from to) = from.now ∷ to.now ∷ []
names_in (commands.Drop name) = name.now ∷ []
names_in commands.Tables = []
names_in (commands.Schema name) = name.now ∷ []
names_in (commands.SchemaFields name) = name.now ∷ []
names_in (commands.Export name) = name.now ∷ []
names_in commands.Check = []
names_in (commands.Info as_json) = []
names_in (commands.Compact steps) = []
names_in commands.Upgrade = []
names_in commands.Have = []

-- a command without options: the fields of a table are given, an import may replace a table, rows are appended from a stream, all columns of all rows
-- are printed as arrays with dates as numbers, the summary as lines, and a compaction has no limit
abbrev pub IsWithoutOptions : StoreCommand → Type 0
IsWithoutOptions (commands.CreateLike name like) = ⊥
IsWithoutOptions (commands.ImportNew name) = ⊥
IsWithoutOptions (commands.ImportComplete name is_new) = ⊥
IsWithoutOptions (commands.AppendComplete name) = ⊥
IsWithoutOptions (commands.SchemaFields name) = ⊥
IsWithoutOptions (commands.AppendText name form) = ⊥
IsWithoutOptions (commands.Query name query shape) = (query.columns ≡ None) × (query.limit ≡ None) × (query.dates ≡ Numbers) × (shape ≡ Array)
IsWithoutOptions (commands.SaveAs from to query) = ⊥
IsWithoutOptions (commands.Info as_json) = as_json ≡ false
IsWithoutOptions (commands.Compact steps) = steps ≡ None
IsWithoutOptions _ = Unit {0}

-- these words name the request's files and tables, its script or its number of sectors; without its option a store is made in the newest version, the
-- receiver of an archive has no segment, and one that receives it keeps its other tables
unfoldable pub IsNamedBy : StoreRequest → List Text → Type 0
IsNamedBy (requests.Command path command) words = (words ≡ path.now ∷ names_in command) × IsWithoutOptions command
IsNamedBy (requests.Format path sectors version) words =
    (number : Text) × (words ≡ path.now ∷ number ∷ []) × IsNumber number sectors × (version ≡ Two)
-- the operands of a block device have no number, and without its option nothing is overwritten
IsNamedBy (requests.FormatDevice path sectors over version) words = (words ≡ path.now ∷ []) × (sectors ≡ None) × (over ≡ false) × (version ≡ Two)
IsNamedBy (requests.Copy path new sectors) words = (number : Text) × (words ≡ path.now ∷ new.now ∷ number ∷ []) × IsNumber number sectors
IsNamedBy (requests.Salvage path name) words = words ≡ path.now ∷ name.now ∷ []
IsNamedBy (requests.Apply path script) words = words ≡ path.now ∷ script.now ∷ []
IsNamedBy (requests.Send path have) words = (words ≡ path.now ∷ []) × (have ≡ None)
IsNamedBy (requests.Receive path delete) words = (words ≡ path.now ∷ []) × (delete ≡ false)
-- a script is played with options, which are not operands
IsNamedBy (requests.Replay script) words = Unit {0}

-- what the arguments ask for, if the words after the command are operands
abbrev pub Names : List Text → StoreRequest → Type 0
Names arguments request = IfSome (operands (words_after_command arguments)) (IsNamedBy request)
