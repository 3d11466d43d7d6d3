-- The rows of a table under another schema.
use Rattle.std.specs.Prelude.{Option, Some, None}
use Rattle.arrow_schema.specs.View.{schema_of}
use Rattle.arrow_schema.specs.declared.types.Schema.{Schema}
use Rattle.ipc_encode.specs.View.{with_schema}
use Rattle.cells.specs.Cell.{PlainTable}
use Rattle.values.specs.TableView.{table_of}
use Rattle.values.specs.declared.table.Table.{Table}

-- instead of its own, if another one is given
abbrev pub table_under : Option Schema → Table → PlainTable
table_under None table = table_of table
table_under (Some schema) table = with_schema (schema_of schema) (table_of table)
