-- Where dictionaries have no limit, a piece is cut by number and weight alone.
use Rattle.std.proofs.Common.{◌≡◌, false, List}
use Rattle.std.proofs.Math.Bool.{and-true}
use Rattle.arrow_schema.specs.Column.{columns_of, PlainSchema}
use Rattle.cells.specs.Cell.{Cell}
use Rattle.cells.specs.Dictionary.{is_any_limited}
use Rattle.cells.specs.Weight.{row_weight}
use Rattle.cells.specs.declared.limits.TheConstants.{MAX_PIECE_ROWS, MAX_PIECE_WEIGHT}
use Rattle.cells.specs.laws.Unlimited.{unlimited_fit}
use Rattle.table_cut.specs.Cut.{within_limits}
use Rattle.table_cut.specs.Piece.{within_piece}

pub unlimited_piece : (s : PlainSchema) (rows : List (List Cell)) → is_any_limited (columns_of s.columns) ≡ false → within_piece s rows ≡ within_limits (row_weight s) MAX_PIECE_ROWS MAX_PIECE_WEIGHT rows
unlimited_piece s rows h = rw (unlimited_fit s rows h) (and-true (within_limits (row_weight s) MAX_PIECE_ROWS MAX_PIECE_WEIGHT rows))
