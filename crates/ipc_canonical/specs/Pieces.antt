-- The properties of a piece of a table.
use Rattle.std.specs.Prelude.{◌≡◌, ◌≤◌, true, List, length}
use Rattle.arrow_schema.specs.Column.{PlainSchema, columns_of}
use Rattle.cells.specs.Cell.{Cell}
use Rattle.columns.specs.Buildable.{can_build_rows}
use Rattle.values.specs.Table.{IsTable}
use Rattle.table_cut.specs.Piece.{within_piece}

-- rows that are a piece: at least one, within the limits of a piece, a table by themselves, and such that the arrays of a batch can be built of them
pub record IsPieceOf (s : PlainSchema) (rows : List (List Cell)) : Type 0 where
  pub some : 1 ≤ length rows
  pub within : within_piece s rows ≡ true
  pub table : IsTable (record { schema = s; rows = rows })
  pub built : can_build_rows (columns_of s.columns) rows ≡ true
