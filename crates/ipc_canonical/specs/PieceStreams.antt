-- The streams of the pieces of a table, each by itself.
use Rattle.std.specs.Prelude.{ℕ, List, map, length}
use Rattle.arrow_schema.specs.Column.{PlainSchema}
use Rattle.ipc_canonical.specs.Canonical.{canonical}
use Rattle.cells.specs.Cell.{Cell, PlainTable}
use Rattle.table_cut.specs.Piece.{pieces_of}
use Rattle.values.specs.PlainTables.{plain_table}

abbrev pub piece_stream : PlainSchema → List (List Cell) → List ℕ
piece_stream s rows = canonical (plain_table s rows)

-- the streams of a table's pieces, and how many rows each has
unfoldable pub piece_streams : PlainTable → List (List ℕ)
piece_streams t = map (piece_stream t.schema) (pieces_of t)

unfoldable pub piece_counts : PlainTable → List ℕ
piece_counts t = map length (pieces_of t)
