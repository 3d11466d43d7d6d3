use Rattle.std.proofs.Common.{◌≡◌, ◌≤◌, ◌++◌, drop, length, vec_len, vec_capacity}
use Rattle.ipc_encode.specs.View.{streams_behind, streams_in}
use Rattle.commit.specs.Placing.{plain_contents}
use Rattle.store_changes.proofs.preparing.borrowed_streams.Given as goal

-- the streams so far and those that are left are all, and there is room for the others
abbrev pub invariant-loop-parts : goal.invariant-loop-parts
invariant-loop-parts l = record {
  all : plain_contents l.borrowed.items ++ streams_behind l.pieces.schema_message.items (drop l.parts-index l.pieces.parts.items) ≡ streams_in l.pieces;
  len : vec_len l.borrowed ≡ l.parts-index;
  room : length l.pieces.parts.items ≤ vec_capacity l.borrowed;
}
