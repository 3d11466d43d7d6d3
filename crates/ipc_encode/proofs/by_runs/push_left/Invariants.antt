use Rattle.std.specs.List.{AllByRecursion}
use Rattle.std.proofs.Common.{◌≡◌, ◌-◌, ◌<◌, ◌^◌, ◌++◌, length, map}
use Rattle.arrow_schema.specs.Column.{columns_of}
use Rattle.arrow_schema.specs.View.{schema_of}
use Rattle.ipc_encode.proofs.Alone.{IsAlone}
use Rattle.ipc_canonical.specs.PieceStreams.{piece_stream, piece_streams, piece_counts}
use Rattle.ipc_encode.specs.View.{streams_behind}
use Rattle.table_cut.specs.Left.{runs_left, rows_left}
use Rattle.ipc_write.specs.Written.{schema_message}
use Rattle.table_cut.specs.Cut.{pieces}
use Rattle.table_cut.specs.Piece.{within_piece}
use Rattle.table_cut.specs.Rows.{runs_table}
use Rattle.ipc_encode.proofs.RunSteps.{AreLeft}
use Rattle.ipc_encode.proofs.by_runs.push_left.Given as goal

-- the streams so far, and those of the pieces that are left, are those of all
abbrev pub invariant-loop-from : goal.invariant-loop-from
invariant-loop-from l =
    let s = schema_of l.schema in
    let cut = pieces (within_piece s) (rows_left (columns_of s.columns) l.left) in
    record {
      left : AreLeft s l.left l.from l.rows;
      alone : AllByRecursion (IsAlone (within_piece s)) cut;
      streams : streams_behind (schema_message s) l.pieces.parts.items ++ map (piece_stream s) cut ≡ piece_streams (runs_table s (runs_left l.fn.left));
      counts : l.pieces.rows.items ++ map length cut ≡ piece_counts (runs_table s (runs_left l.fn.left));
      message : l.pieces.schema_message.items ≡ l.fn.pieces.schema_message.items;
      short : AllByRecursion (λ stream. length stream < 2 ^ 64) (streams_behind (schema_message s) l.pieces.parts.items);
    }

abbrev pub decreases-loop-from : goal.decreases-loop-from
decreases-loop-from l = l.rows - l.from
