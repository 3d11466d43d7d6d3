use Rattle.std.specs.List.{AllByRecursion, flat_map}
use Rattle.std.proofs.Common.{◌≡◌, ◌-◌, ◌≤◌, ◌++◌, [], length, drop}
use Rattle.arrow_schema.specs.View.{schema_of}
use Rattle.ipc_canonical.specs.Canonical.{piece_messages, rows_messages}
use Rattle.ipc_canonical.specs.Pieces.{IsPieceOf}
use Rattle.ipc_encode.specs.inner.Stream.{stream_in}
use Rattle.table_cut.specs.Cut.{pieces}
use Rattle.table_cut.specs.Piece.{within_piece}
use Rattle.values.specs.TableView.{table_of}
use Rattle.ipc_encode.proofs.encoder.write_rows.Given as goal

-- what is written, and the messages of the pieces that are left, are all of them
abbrev pub invariant-loop-from : goal.invariant-loop-from
invariant-loop-from l =
    let s = schema_of l.schema in
    let left = pieces (within_piece s) (drop l.from (table_of l.table).rows) in
    record {
      within : l.from ≤ length (table_of l.table).rows;
      each : AllByRecursion (IsPieceOf s) left;
      written : stream_in l.stream ++ (flat_map (piece_messages s) left ++ []) ≡ stream_in l.fn.stream ++ rows_messages s (table_of l.table).rows;
    }

abbrev pub decreases-loop-from : goal.decreases-loop-from
decreases-loop-from l = length (table_of l.table).rows - l.from
