use Rattle.std.specs.List.{flat_map}
use Rattle.std.proofs.Common.{◌≡◌, ◌-◌, ◌++◌, []}
use Rattle.arrow_schema.specs.Column.{columns_of}
use Rattle.arrow_schema.specs.View.{schema_of}
use Rattle.ipc_canonical.specs.Canonical.{piece_messages, rows_messages}
use Rattle.ipc_encode.specs.inner.Stream.{stream_in}
use Rattle.table_cut.specs.Left.{rows_left}
use Rattle.table_cut.specs.Cut.{pieces}
use Rattle.table_cut.specs.Piece.{within_piece}
use Rattle.ipc_encode.proofs.RunSteps.{AreLeft}
use Rattle.ipc_encode.proofs.by_runs.write_runs.Given as goal

-- what is written, and the messages of the pieces that are left, are all of them
abbrev pub invariant-loop-from : goal.invariant-loop-from
invariant-loop-from l =
    let s = schema_of l.schema in
    let cut = pieces (within_piece s) (rows_left (columns_of s.columns) l.left) in
    record {
      left : AreLeft s l.left l.from l.rows;
      written : stream_in l.stream ++ (flat_map (piece_messages s) cut ++ []) ≡ stream_in l.fn.stream ++ rows_messages s (rows_left (columns_of s.columns) l.fn.left);
    }

abbrev pub decreases-loop-from : goal.decreases-loop-from
decreases-loop-from l = l.rows - l.from
