-- The plain command of a command of the code.
use Rattle.std.specs.Prelude.{List, map, string_bytes}
use Rattle.arrow_schema.specs.View.{schema_of}
use Rattle.cells.specs.Row.{row_of}
use Rattle.values.specs.TableView.{table_of}
use Rattle.query.specs.View.{query_in}
use Rattle.tables.specs.declared.command.Command.{Command}
use Rattle.tables.specs.declared.command.Command.TheVariants.{Create, ImportStream, AppendStream, AppendRows, AppendTable, SaveAs, Rename, Drop}
use Rattle.tables.specs.Commands.{PlainCommand, create, import_stream, append_stream, append_rows, save_as, rename, drop_table, all_of, commands_of}

abbrev pub command_of : Command → PlainCommand
command_of (Create new) = create (string_bytes new.name) (schema_of new.schema)
command_of (ImportStream name bytes) = import_stream (string_bytes name) bytes.items
command_of (AppendStream name bytes) = append_stream (string_bytes name) bytes.items
command_of (AppendRows name rows) = append_rows (string_bytes name) (map row_of rows.items)
command_of (AppendTable name new) = append_rows (string_bytes name) (table_of new.table).rows
command_of (SaveAs from to query) = save_as (string_bytes from) (string_bytes to) (query_in query)
command_of (Rename from to) = rename (string_bytes from) (string_bytes to)
command_of (Drop name) = drop_table (string_bytes name)

-- several commands as one
abbrev pub list_of : List Command → PlainCommand
list_of cs = all_of (commands_of (map command_of cs))
