-- The word of a command line that asks for each command.
use Rattle.std.specs.Prelude.{Bool, true, false, not, ◌&&◌, codes}
use Rattle.clap.specs.Words.{Text}
use Rattle.cli_requests.specs.declared.store_words.StoreCommand.{StoreCommand}
use Rattle.cli_requests.specs.declared.store_words.StoreCommand.TheVariants as commands
use Rattle.cli_requests.specs.declared.store_words.StoreRequest.{StoreRequest}
use Rattle.cli_requests.specs.declared.store_words.StoreRequest.TheVariants as requests
use Rattle.cli_requests.specs.StoreWords.{reads_word}

-- `create` has the fields of a table or names one that has them, `import` replaces a table or refuses its name, `append` takes the rows of a stream or of a
-- text, a stream may have to have its end, `schema` prints fields in two ways, and `query` prints or saves
abbrev pub command_word : StoreCommand → Text
command_word (commands.Create name fields) = codes "create"
command_word (commands.CreateLike name like) = codes "create"
command_word (commands.Import name) = codes "import"
command_word (commands.ImportNew name) = codes "import"
command_word (commands.ImportComplete name is_new) = codes "import"
command_word (commands.Append name) = codes "append"
command_word (commands.AppendComplete name) = codes "append"
command_word (commands.AppendText name form) = codes "append"
command_word (commands.Query name query form) = codes "query"
command_word (commands.SaveAs from to query) = codes "query"
command_word (commands.Rename from to) = codes "rename"
command_word (commands.Drop name) = codes "drop"
command_word commands.Tables = codes "tables"
command_word (commands.Schema name) = codes "schema"
command_word (commands.SchemaFields name) = codes "schema"
command_word (commands.Export name) = codes "export"
command_word commands.Check = codes "check"
command_word (commands.Info as_json) = codes "info"
command_word (commands.Compact steps) = codes "compact"
command_word commands.Upgrade = codes "upgrade"
command_word commands.Have = codes "have"

abbrev pub request_word : StoreRequest → Text
request_word (requests.Format path sectors version) = codes "format"
request_word (requests.FormatDevice path sectors over version) = codes "format"
request_word (requests.Copy path new sectors) = codes "copy"
request_word (requests.Salvage path name) = codes "salvage"
request_word (requests.Replay words) = codes "replay"
request_word (requests.Apply path script) = codes "apply"
request_word (requests.Send path have) = codes "send"
request_word (requests.Receive path delete) = codes "receive"
request_word (requests.Command path command) = command_word command

abbrev pub is_saving : StoreCommand → Bool
is_saving (commands.SaveAs from to query) = true
is_saving _ = false

-- the word is one of a command that reads, and nothing is saved
unfoldable pub only_reads : StoreCommand → Bool
only_reads command = reads_word (command_word command) && not (is_saving command)

-- a request that only a block device meets
abbrev pub is_for_device : StoreRequest → Bool
is_for_device (requests.FormatDevice path sectors over version) = true
is_for_device _ = false

-- a request that makes a store or changes one
abbrev pub changes : StoreRequest → Bool
changes (requests.Format path sectors version) = true
changes (requests.FormatDevice path sectors over version) = true
changes (requests.Copy path new sectors) = true
changes (requests.Salvage path name) = false
changes (requests.Replay words) = false
changes (requests.Apply path script) = true
changes (requests.Send path have) = false
changes (requests.Receive path delete) = true
changes (requests.Command path command) = not (only_reads command)
