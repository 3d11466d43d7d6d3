-- The table of the segments that were read so far.
use Rattle.arrow_schema.specs.View.{schema_of}
use Rattle.cells.specs.Cell.{PlainTable}
use Rattle.values.specs.Parts.{parts_table}
use Rattle.store_changes.specs.declared.table_builder.TableBuilder.{TableBuilder}

abbrev pub table_so_far : TableBuilder → PlainTable
table_so_far g = parts_table (schema_of g.schema) g.parts.items
