-- The limits of a piece: what one record batch of a canonical stream may have.
use Rattle.std.specs.Prelude.{Bool, List, ◌&&◌}
use Rattle.arrow_schema.specs.Column.{PlainSchema}
use Rattle.cells.specs.declared.limits.TheConstants.{MAX_PIECE_ROWS, MAX_PIECE_WEIGHT}
use Rattle.cells.specs.Cell.{Cell, PlainTable}
use Rattle.cells.specs.Dictionary.{dictionaries_fit}
use Rattle.cells.specs.Weight.{row_weight}
use Rattle.table_cut.specs.Cut.{pieces, within_limits}

-- at most 4,096 rows, a weight of at most 16,777,216, and in no dictionary more values than its indices can name
abbrev pub within_piece : PlainSchema → List (List Cell) → Bool
within_piece s rows = within_limits (row_weight s) MAX_PIECE_ROWS MAX_PIECE_WEIGHT rows && dictionaries_fit s rows

-- the pieces of a table, in order
abbrev pub pieces_of : PlainTable → List (List (List Cell))
pieces_of t = pieces (within_piece t.schema) t.rows
