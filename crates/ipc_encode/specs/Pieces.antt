-- The pieces of a table, each as a stream of its own.
use Rattle.std.specs.Prelude.{◌≡◌, ◌≤◌, true, nat_eq, List, length, Ok}
use Rattle.std.specs.List.{starts_with}
use Rattle.arrow_schema.specs.Column.{PlainSchema}
use Rattle.cells.specs.Cell.{Cell}
use Rattle.cells.specs.declared.limits.TheConstants.{MAX_PIECE_ROWS}
use Rattle.ipc_message.specs.Header.{supported_codes}
use Rattle.ipc_stream.specs.Meaning.{meaning}
use Rattle.ipc_write.specs.Written.{schema_message}
use Rattle.values.specs.Table.{IsTable}
use Rattle.values.specs.PlainTables.{plain_table}
use Rattle.ipc_canonical.specs.PieceStreams.{piece_stream}

-- rows that are a piece: few, and a table by themselves, which their stream means; the stream begins with the schema's message
pub record IsPiece (s : PlainSchema) (rows : List (List Cell)) : Type 0 where
  pub table : IsTable (plain_table s rows)
  pub some : 1 ≤ length rows
  pub few : length rows ≤ MAX_PIECE_ROWS
  pub means : meaning supported_codes (piece_stream s rows) ≡ Ok (plain_table s rows)
  pub begins : starts_with nat_eq (piece_stream s rows) (schema_message s) ≡ true
  pub bytes : 1 ≤ length (piece_stream s rows)
