-- The commands as `clap` parses them, and the values that it finds.
use Rattle.std.specs.Prelude.{◌≡◌, ◌≢◌, ◌⊎◌, Bool, true, false, ◌||◌, List, [], ◌∷◌, codes, Some, None, option_map, if◌then◌else◌, unwrap_or}
use Rattle.std.specs.Str.{bytes_eq}
use Rattle.clap.specs.Lexer.{usize_max}
use Rattle.clap.specs.ValueTests.{accepts}
use Rattle.clap.specs.Walk.{texts}
use Rattle.clap.specs.Words.{App, Rule, Text, new_app, new_rule, with_rule, first_value, matched_of, one_text, raw_values, kind_of}
use Rattle.clap.specs.declared.builder.action.ArgAction.TheVariants.{SetTrue}
use Rattle.clap.specs.declared.builder.value_parser.ValueParser.{ValueParser}
use Rattle.clap.specs.declared.builder.value_parser.ValueParser.TheVariants as parsers
use Rattle.clap.specs.declared.parser.matches.Found.{Found}
use Rattle.commit.specs.declared.sector.FormatVersion.{FormatVersion}
use Rattle.query.specs.declared.row_form.RowShape.{RowShape}
use Rattle.query.specs.declared.row_form.RowShape.TheVariants.{Array, Object}
use Rattle.clap.specs.declared.error.kind.ErrorKind.TheVariants.{OutOfMemory}
use Rattle.cli_requests.specs.declared.command_parameters.Parameters.{Parameters}
use Rattle.cli_requests.specs.declared.command_parameters.Parameters.TheVariants as parameters
use Rattle.cli_requests.specs.Choices.{IsChoice}
use Rattle.cli_requests.specs.Numbers.{IsNumber, IsNumberIfAny, IsNumberOrZero, is_number_if_any}
use Rattle.cli_requests.specs.Operands.{names_file, names_table, version_named}
use Rattle.cli_requests.specs.declared.store_command_line.Mistake.{Mistake}
use Rattle.cli_requests.specs.declared.store_command_line.Mistake.TheVariants as mistakes
use Rattle.cli_requests.specs.declared.replaying.ReplayWords.{ReplayWords}
use Rattle.cli_requests.specs.declared.store_words.QueryWords.{QueryWords}
use Rattle.cli_requests.specs.declared.store_words.StoreCommand.{StoreCommand}
use Rattle.cli_requests.specs.declared.store_words.StoreCommand.TheVariants as commands
use Rattle.cli_requests.specs.declared.store_words.StoreRequest.{StoreRequest}
use Rattle.cli_requests.specs.declared.store_words.StoreRequest.TheVariants as requests
use Rattle.civil_days.specs.declared.date_form.DateForm.{DateForm}
use Rattle.civil_days.specs.declared.date_form.DateForm.TheVariants.{Numbers, Iso}
use Rattle.text_import.specs.declared.form.TextForm.{TextForm}
use Rattle.text_import.specs.declared.form.TextForm.TheVariants as text_forms

abbrev pub required_rule : Text → Rule
required_rule id = record (new_rule id) { required = true }

-- an option without a value
abbrev pub flag_rule : Text → Rule
flag_rule id = record (new_rule id) { long = Some id; action = Some SetTrue }

-- a command that names the file of its store, and may wait for its lock
abbrev pub store_app : Text → App
store_app name = with_rule (with_rule (new_app name) (required_rule (codes "STORE"))) (flag_rule (codes "wait"))

-- an unsigned number of 64 bits, which must be given, or may be left out
abbrev pub sectors_rule : Rule
sectors_rule = record (required_rule (codes "SECTORS")) { parser = Some (parsers.Unsigned 0 18446744073709551615) }

abbrev pub sectors_if_any_rule : Rule
sectors_if_any_rule = record (new_rule (codes "SECTORS")) { parser = Some (parsers.Unsigned 0 18446744073709551615) }

-- a command that takes an option without a value
abbrev pub info_app : Text → App
info_app name = with_rule (store_app name) (flag_rule (codes "json"))

-- an option with a value
abbrev pub option_rule : Text → Rule
option_rule id = record (new_rule id) { long = Some id; value_names = 1 }

-- the version of the store to be made
abbrev pub version_rule : Rule
version_rule = record (option_rule (codes "format-version")) { parser = Some (parsers.Unsigned 1 2) }

-- a command that takes a number of sectors, a version, and whether a block device is overwritten; and one that names a new file before the number
abbrev pub format_app : Text → App
format_app name = with_rule (with_rule (with_rule (store_app name) sectors_if_any_rule) version_rule) (flag_rule (codes "over"))

abbrev pub new_file_app : Text → App
new_file_app name = with_rule (store_app name) (required_rule (codes "NEW"))

abbrev pub copy_app : Text → App
copy_app name = with_rule (new_file_app name) sectors_rule

-- a command that may have a limit of its steps
abbrev pub steps_rule : Rule
steps_rule = record (option_rule (codes "steps")) { parser = Some (parsers.Unsigned 0 18446744073709551615) }

abbrev pub compact_app : Text → App
compact_app name = with_rule (store_app name) steps_rule

-- a command that may name a file of digests
abbrev pub send_app : Text → App
send_app name = with_rule (store_app name) (option_rule (codes "have"))

-- a command that may drop tables
abbrev pub receive_app : Text → App
receive_app name = with_rule (store_app name) (flag_rule (codes "delete"))

-- a command that also names a script
abbrev pub apply_app : Text → App
apply_app name = with_rule (store_app name) (required_rule (codes "SCRIPT"))

-- a command that also names a table, and one that gives the table another name
abbrev pub table_app : Text → App
table_app name = with_rule (store_app name) (required_rule (codes "NAME"))

abbrev pub rename_app : Text → App
rename_app name = with_rule (table_app name) (required_rule (codes "NEW"))

-- a command that also says how the fields of the table are printed
abbrev pub schema_app : Text → App
schema_app name = with_rule (table_app name) (flag_rule (codes "fields"))

-- a command that also says whether the table must be new, and whether the stream must have its end
abbrev pub import_app : Text → App
import_app name = with_rule (with_rule (table_app name) (flag_rule (codes "new"))) (flag_rule (codes "complete"))

-- a word that may be given any number of times
abbrev pub repeated_rule : Text → Rule
repeated_rule id = record (new_rule id) { range = Some (record { start_inclusive = 0; end_inclusive = usize_max }) }

-- a command that takes the fields of a new table, or the name of a table that has them
abbrev pub fields_app : Text → App
fields_app name = with_rule (table_app name) (repeated_rule (codes "FIELD"))

abbrev pub create_app : Text → App
create_app name = with_rule (fields_app name) (option_rule (codes "like"))

-- a command that takes the form of its input, by default a stream, the text of null, and whether a stream must have its end
abbrev pub form_rule : ValueParser → Rule
form_rule forms = record (option_rule (codes "as")) { parser = Some forms; defaults = codes "stream" ∷ [] }

abbrev pub null_rule : Rule
null_rule = record (option_rule (codes "null")) { defaults = [] ∷ [] }

-- how dates and times stand in texts, by default as numbers
abbrev pub dates_rule : ValueParser → Rule
dates_rule dates = record (option_rule (codes "dates")) { parser = Some dates; defaults = codes "number" ∷ [] }

abbrev pub append_app : (forms dates : ValueParser) → Text → App
append_app forms dates name =
    with_rule (with_rule (with_rule (with_rule (table_app name) (form_rule forms)) null_rule) (dates_rule dates)) (flag_rule (codes "complete"))

-- a command that takes a query, and a name to save it under
abbrev pub limit_rule : Rule
limit_rule = record (option_rule (codes "limit")) { parser = Some (parsers.Unsigned 0 18446744073709551615) }

abbrev pub conditions_app : Text → App
conditions_app name = with_rule (table_app name) (repeated_rule (codes "CONDITION"))

-- how dates and times stand in conditions and lines, if it is said
abbrev pub query_dates_rule : ValueParser → Rule
query_dates_rule dates = record (option_rule (codes "dates")) { parser = Some dates }

-- how dates stand is said apart
abbrev pub selection_app : Text → App
selection_app name = with_rule (with_rule (with_rule (with_rule (conditions_app name) (option_rule (codes "columns"))) limit_rule) (option_rule (codes "save")))
    (flag_rule (codes "objects"))

abbrev pub query_app : (dates : ValueParser) → Text → App
query_app dates name = with_rule (selection_app name) (query_dates_rule dates)

-- a script, and what goes wrong while it is played
abbrev pub number_rule : Text → Rule
number_rule id = record (option_rule id) { parser = Some (parsers.Unsigned 0 18446744073709551615) }

abbrev pub size_rule : Rule
size_rule = record (number_rule (codes "sectors")) { required = true }

abbrev pub choice_rule : Rule
choice_rule = record (option_rule (codes "choice")) { defaults = codes "old" ∷ [] }

abbrev pub script_app : Text → App
script_app name = with_rule (with_rule (new_app name) (required_rule (codes "SCRIPT"))) size_rule

abbrev pub replay_app : Text → App
replay_app name = with_rule (with_rule (with_rule (with_rule (script_app name) (number_rule (codes "fail"))) (number_rule (codes "stop"))) choice_rule)
    version_rule

-- the forms of an input, and no others
abbrev pub is_form : Text → Bool
is_form word = bytes_eq (codes "stream") word || (bytes_eq (codes "csv") word || bytes_eq (codes "jsonl") word)

abbrev pub AreForms : ValueParser → Type 0
AreForms forms = (word : Text) → accepts false forms word ≡ is_form word

-- how dates may stand, and in no other way
abbrev pub is_date_form : Text → Bool
is_date_form word = bytes_eq (codes "number") word || bytes_eq (codes "iso") word

abbrev pub AreDateForms : ValueParser → Type 0
AreDateForms dates = (word : Text) → accepts false dates word ≡ is_date_form word

-- the command of this name with these parameters
abbrev pub IsAppWith : Text → Parameters → App → Type 0
IsAppWith name parameters.Nothing command = command ≡ store_app name
IsAppWith name parameters.FileAndForm command = command ≡ info_app name
IsAppWith name parameters.FileAndSteps command = command ≡ compact_app name
IsAppWith name parameters.FileAndDigests command = command ≡ send_app name
IsAppWith name parameters.FileAndDeletion command = command ≡ receive_app name
IsAppWith name parameters.Table command = command ≡ table_app name
IsAppWith name parameters.TableToDescribe command = command ≡ schema_app name
IsAppWith name parameters.TableToImport command = command ≡ import_app name
IsAppWith name parameters.TableAndNewName command = command ≡ rename_app name
IsAppWith name parameters.Sectors command = command ≡ format_app name
IsAppWith name parameters.NewStore command = command ≡ copy_app name
IsAppWith name parameters.Script command = command ≡ apply_app name
IsAppWith name parameters.TableAndFields command = command ≡ create_app name
IsAppWith name parameters.TableAndRows command =
    (forms : ValueParser) × AreForms forms × (dates : ValueParser) × AreDateForms dates × (command ≡ append_app forms dates name)
IsAppWith name parameters.TableAndQuery command = (dates : ValueParser) × AreDateForms dates × (command ≡ query_app dates name)
IsAppWith name parameters.ScriptAndFaults command = command ≡ replay_app name

-- the parameters of a command
unfoldable pub other_parameters : Text → Parameters
other_parameters word =
    if bytes_eq (codes "format") word then parameters.Sectors
    else (if bytes_eq (codes "copy") word then parameters.NewStore else (if bytes_eq (codes "create") word then parameters.TableAndFields else (if bytes_eq
    (codes "append") word then parameters.TableAndRows else (if bytes_eq (codes "replay") word then parameters.ScriptAndFaults else (if bytes_eq
    (codes "info") word then parameters.FileAndForm else (if bytes_eq (codes "import") word then parameters.TableToImport else (if bytes_eq
    (codes "schema") word then parameters.TableToDescribe else (if bytes_eq (codes "apply") word then parameters.Script else (if bytes_eq
    (codes "compact") word then parameters.FileAndSteps else (if bytes_eq (codes "send") word then parameters.FileAndDigests
    else (if bytes_eq (codes "receive") word then parameters.FileAndDeletion else parameters.TableAndQuery)))))))))))

unfoldable pub parameters_of : Text → Parameters
parameters_of word =
    if names_file word then parameters.Nothing
    else (if names_table word then parameters.Table else (if bytes_eq (codes "rename") word then parameters.TableAndNewName else other_parameters word))

-- the command of a word, as it is parsed by itself
abbrev pub IsOwnApp : Text → App → Type 0
IsOwnApp word command = IsAppWith word (parameters_of word) command

-- the first value of an argument; empty if there is none
abbrev pub value_of : Found → Text → Text
value_of found id = unwrap_or (first_value found id) []

-- all values of an argument
abbrev pub values_of : Found → Text → List Text
values_of found id = unwrap_or (option_map raw_values (matched_of found id)) []

-- dates stand as people write them if this was found
abbrev pub HasDates : Found → DateForm → Type 0
HasDates found Iso = value_of found (codes "dates") ≡ codes "iso"
HasDates found Numbers = value_of found (codes "dates") ≢ codes "iso"

-- a query has the conditions, the columns and the limit that were found, and its dates stand as it was found
pub record HasQuery (found : Found) (query : QueryWords) : Type 0 where
  pub conditions : texts query.conditions.items ≡ values_of found (codes "CONDITION")
  pub columns : option_map (λ s. s.now) query.columns ≡ first_value found (codes "columns")
  pub limit : IsNumberIfAny (first_value found (codes "limit")) query.limit
  pub dates : HasDates found query.dates

-- rows are objects if the option is given
pub record HasShape (found : Found) (shape : RowShape) : Type 0 where
  pub arrays : one_text found (codes "objects") ≡ Some (codes "false") → shape ≡ Array
  pub objects : one_text found (codes "objects") ≡ Some (codes "true") → shape ≡ Object

-- the flag says whether this option without a value is given
pub record HasFlag (found : Found) (id : Text) (flag : Bool) : Type 0 where
  pub left_out : one_text found id ≡ Some (codes "false") → flag ≡ false
  pub given : one_text found id ≡ Some (codes "true") → flag ≡ true

-- the form of a text is the one that was found, and in CSV the text that was found stands for null
abbrev pub HasTextForm : Found → TextForm → Type 0
HasTextForm found (text_forms.Csv form) =
    (value_of found (codes "as") ≡ codes "csv") × (form.null_text.now ≡ value_of found (codes "null")) × HasDates found form.dates
HasTextForm found (text_forms.JsonLines date_form) = (value_of found (codes "as") ≢ codes "csv") × HasDates found date_form

-- a command has the names that were found
abbrev pub HasNames : Found → StoreCommand → Type 0
HasNames found (commands.Import name) =
    (name.now ≡ value_of found (codes "NAME")) × HasFlag found (codes "new") false × HasFlag found (codes "complete") false
HasNames found (commands.ImportNew name) =
    (name.now ≡ value_of found (codes "NAME")) × HasFlag found (codes "new") true × HasFlag found (codes "complete") false
HasNames found (commands.ImportComplete name is_new) =
    (name.now ≡ value_of found (codes "NAME")) × HasFlag found (codes "new") is_new × HasFlag found (codes "complete") true
HasNames found (commands.Create name fields) =
    (name.now ≡ value_of found (codes "NAME")) × (texts fields.items ≡ values_of found (codes "FIELD")) × (first_value found (codes "like") ≡ None)
HasNames found (commands.CreateLike name like) =
    (name.now ≡ value_of found (codes "NAME")) × (Some like.now ≡ first_value found (codes "like")) × (first_value found (codes "FIELD") ≡ None)
HasNames found (commands.Append name) =
    (name.now ≡ value_of found (codes "NAME")) × (bytes_eq (value_of found (codes "as")) (codes "stream") ≡ true) × HasFlag found (codes "complete") false
HasNames found (commands.AppendComplete name) =
    (name.now ≡ value_of found (codes "NAME")) × (bytes_eq (value_of found (codes "as")) (codes "stream") ≡ true) × HasFlag found (codes "complete") true
HasNames found (commands.AppendText name form) =
    (name.now ≡ value_of found (codes "NAME")) × (bytes_eq (value_of found (codes "as")) (codes "stream") ≡ false) × HasTextForm found form
    × HasFlag found (codes "complete") false
HasNames found (commands.Query name query shape) = (name.now ≡ value_of found (codes "NAME")) × HasQuery found query × HasShape found shape
HasNames found (commands.SaveAs from to query) =
    (from.now ≡ value_of found (codes "NAME")) × (Some to.now ≡ first_value found (codes "save")) × HasQuery found query × HasShape found Array
HasNames found (commands.Drop name) = name.now ≡ value_of found (codes "NAME")
HasNames found (commands.Schema name) = (name.now ≡ value_of found (codes "NAME")) × HasFlag found (codes "fields") false
HasNames found (commands.SchemaFields name) = (name.now ≡ value_of found (codes "NAME")) × HasFlag found (codes "fields") true
HasNames found (commands.Export name) = name.now ≡ value_of found (codes "NAME")
HasNames found (commands.Info as_json) = HasFlag found (codes "json") as_json
HasNames found (commands.Compact steps) = IsNumberIfAny (first_value found (codes "steps")) steps
HasNames found (commands.Rename from to) = (from.now ≡ value_of found (codes "NAME")) × (to.now ≡ value_of found (codes "NEW"))
HasNames found _ = Unit {0}

-- the version of the store to be made is that of its option, if it is given
abbrev pub HasVersion : Found → FormatVersion → Type 0
HasVersion found version =
    (is_number_if_any (first_value found (codes "format-version")) ≡ true) × (version ≡ version_named (first_value found (codes "format-version")))

-- the script and what goes wrong while it is played are those that were found
pub record HasScript (found : Found) (words : ReplayWords) : Type 0 where
  pub script : words.script.now ≡ value_of found (codes "SCRIPT")
  pub sectors : IsNumberOrZero (first_value found (codes "sectors")) words.sectors
  pub fail : IsNumberOrZero (first_value found (codes "fail")) words.fail
  pub stop : IsNumberOrZero (first_value found (codes "stop")) words.stop
  pub choice : IsChoice (value_of found (codes "choice")) words.choice
  pub version : HasVersion found words.version

-- a request has everything that was found
abbrev pub HasFound : Found → StoreRequest → Type 0
HasFound found (requests.Command path command) = (path.now ≡ value_of found (codes "STORE")) × HasNames found command
HasFound found (requests.Format path sectors version) =
    (path.now ≡ value_of found (codes "STORE")) × IsNumber (value_of found (codes "SECTORS")) sectors × HasVersion found version
    × HasFlag found (codes "over") false
HasFound found (requests.FormatDevice path sectors over version) =
    (path.now ≡ value_of found (codes "STORE")) × IsNumberIfAny (first_value found (codes "SECTORS")) sectors × HasVersion found version
    × HasFlag found (codes "over") over × ((sectors ≡ None) ⊎ (over ≡ true))
HasFound found (requests.Copy path new sectors) =
    (path.now ≡ value_of found (codes "STORE")) × (new.now ≡ value_of found (codes "NEW")) × IsNumber (value_of found (codes "SECTORS")) sectors
HasFound found (requests.Salvage path name) = (path.now ≡ value_of found (codes "STORE")) × (name.now ≡ value_of found (codes "NAME"))
HasFound found (requests.Replay words) = HasScript found words
HasFound found (requests.Apply path script) = (path.now ≡ value_of found (codes "STORE")) × (script.now ≡ value_of found (codes "SCRIPT"))
HasFound found (requests.Send path have) =
    (path.now ≡ value_of found (codes "STORE")) × (option_map (λ s. s.now) have ≡ first_value found (codes "have"))
HasFound found (requests.Receive path delete) = (path.now ≡ value_of found (codes "STORE")) × HasFlag found (codes "delete") delete

-- memory was refused
abbrev pub IsOfMemory : Mistake → Type 0
IsOfMemory (mistakes.Words error) = kind_of error ≡ OutOfMemory
IsOfMemory mistakes.SignedNumber = ⊥
