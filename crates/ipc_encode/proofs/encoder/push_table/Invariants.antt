use Rattle.std.specs.List.{AllByRecursion}
use Rattle.std.proofs.Common.{◌≡◌, ◌-◌, ◌≤◌, ◌<◌, ◌^◌, ◌++◌, length, map, drop}
use Rattle.arrow_schema.specs.View.{schema_of}
use Rattle.ipc_canonical.specs.Pieces.{IsPieceOf}
use Rattle.ipc_canonical.specs.PieceStreams.{piece_stream, piece_streams, piece_counts}
use Rattle.ipc_encode.specs.View.{streams_behind, with_schema}
use Rattle.ipc_write.specs.Written.{schema_message}
use Rattle.table_cut.specs.Cut.{pieces}
use Rattle.table_cut.specs.Piece.{within_piece}
use Rattle.values.specs.TableView.{table_of}
use Rattle.ipc_encode.proofs.Alone.{IsAlone}
use Rattle.ipc_encode.proofs.encoder.push_table.Given as goal

-- the streams so far, and those of the pieces that are left, are those of all
abbrev pub invariant-loop-from : goal.invariant-loop-from
invariant-loop-from l =
    let s = schema_of l.schema in
    let left = pieces (within_piece s) (drop l.from (table_of l.table).rows) in
    record {
      within : l.from ≤ length (table_of l.table).rows;
      each : AllByRecursion (IsPieceOf s) left;
      alone : AllByRecursion (IsAlone (within_piece s)) left;
      streams : streams_behind (schema_message s) l.pieces.parts.items ++ map (piece_stream s) left ≡ piece_streams (with_schema s (table_of l.table));
      counts : l.pieces.rows.items ++ map length left ≡ piece_counts (with_schema s (table_of l.table));
      message : l.pieces.schema_message.items ≡ l.fn.pieces.schema_message.items;
      short : AllByRecursion (λ stream. length stream < 2 ^ 64) (streams_behind (schema_message s) l.pieces.parts.items);
    }

abbrev pub decreases-loop-from : goal.decreases-loop-from
decreases-loop-from l = length (table_of l.table).rows - l.from
