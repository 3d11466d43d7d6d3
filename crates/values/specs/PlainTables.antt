-- A table by its parts.
use Rattle.std.specs.Prelude.{List}
use Rattle.arrow_schema.specs.Column.{PlainSchema}
use Rattle.cells.specs.Cell.{Cell, PlainTable}

abbrev pub plain_table : PlainSchema → List (List Cell) → PlainTable
plain_table s rows = record { schema = s; rows = rows }
