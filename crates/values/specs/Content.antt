-- The rows of a table, however they are kept.
use Rattle.std.specs.Prelude.{ℕ, ◌==◌, ◌&&◌, Bool, List, map, length, sum}
use Rattle.arrow_schema.specs.Column.{columns_of}
use Rattle.arrow_schema.specs.View.{schema_of}
use Rattle.arrow_schema.specs.declared.types.Schema.{Schema}
use Rattle.values.specs.declared.content.Content.{Content}
use Rattle.values.specs.declared.content.Content.TheVariants.{Rows, Batches}
use Rattle.cells.specs.Cell.{Cell, PlainTable}
use Rattle.cells.specs.Row.{row_of}
use Rattle.values.specs.Parts.{parts_rows, are_parts_sound}
use Rattle.values.specs.inner.Starts.{part_lengths}

abbrev pub rows_of : Schema → Content → List (List Cell)
rows_of schema (Rows rows) = map row_of rows.items
rows_of schema (Batches batches) = parts_rows (columns_of (schema_of schema).columns) batches.parts.items

-- a schema and these rows
abbrev pub table_with : Schema → Content → PlainTable
table_with schema content = record { schema = schema_of schema; rows = rows_of schema content }

-- there are n rows, or arrays of n, which can be looked up
abbrev pub is_filled : Schema → ℕ → Content → Bool
is_filled schema n (Rows rows) = length rows.items == n
is_filled schema n (Batches batches) = n == sum (part_lengths batches.parts.items) && are_parts_sound (columns_of (schema_of schema).columns) batches.parts.items
