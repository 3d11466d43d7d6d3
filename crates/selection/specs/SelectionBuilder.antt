-- The selection of a table that is given one part after another.
use Rattle.std.specs.Prelude.{◌≡◌, ◌++◌, List}
use Rattle.arrow_schema.specs.Column.{PlainSchema, columns_of}
use Rattle.arrow_schema.specs.View.{schema_of}
use Rattle.cells.specs.Cell.{Cell, PlainTable}
use Rattle.query.specs.BoundQuery.{PlainBoundQuery, bound_query_in, rows_selected, query_after}
use Rattle.query.specs.Selection.{pick}
use Rattle.selection.specs.declared.selection_builder.SelectionBuilder.{SelectionBuilder}
use Rattle.values.specs.Parts.{parts_rows}
use Rattle.values.specs.Table.{IsTable}

-- the schema of the selection, its rows so far, and what is asked of the rows that follow
pub record PlainBuilder : Type 0 where
  pub schema : PlainSchema
  pub rows : List (List Cell)
  pub query : PlainBoundQuery

abbrev pub builder_in : SelectionBuilder → PlainBuilder
builder_in b = record { schema = schema_of b.schema; rows = parts_rows (columns_of (schema_of b.schema).columns) b.parts.items; query = bound_query_in b.query }

-- the table of its rows so far
abbrev pub table_built : PlainBuilder → PlainTable
table_built b = record { schema = b.schema; rows = b.rows }

-- the builder after these rows of the table
abbrev pub builder_after : PlainBuilder → List (List Cell) → PlainBuilder
builder_after b rows = record { schema = b.schema; rows = b.rows ++ rows_selected b.query rows; query = query_after b.query rows }

-- what it selects of a table of this schema has its schema, and is a table
pub record SelectsOf (b : PlainBuilder) (s : PlainSchema) : Type 0 where
  pub schema : b.schema ≡ record { columns = pick b.query.places s.columns; pairs = s.pairs }
  pub tables : (rows : List (List Cell)) → IsTable (record { schema = s; rows = rows }) → IsTable (record { schema = b.schema; rows = rows_selected b.query rows })
