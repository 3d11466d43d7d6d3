use Rattle.std.proofs.Common.{◌≡◌, ◌++◌, drop, map}
use Rattle.ipc_encode.specs.View.{streams_behind, streams_in}
use Rattle.store_changes.proofs.drafting.owned_streams.Given as goal

-- the streams so far and those that are left are all
abbrev pub invariant-loop-parts : goal.invariant-loop-parts
invariant-loop-parts l = record {
  all : map (λ s. s.items) l.streams.items ++ streams_behind l.pieces.schema_message.items (drop l.parts-index l.pieces.parts.items) ≡ streams_in l.pieces;
}
