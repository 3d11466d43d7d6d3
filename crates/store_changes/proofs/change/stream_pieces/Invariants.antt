use Rattle.std.proofs.Common.{◌≡◌, [], map, take}
use Rattle.ipc_encode.specs.View.{streams_behind}
use Rattle.commit.specs.Placing.{AreShort}
use Rattle.store_changes.specs.Picked.{streams_at}
use Rattle.store_changes.proofs.change.stream_pieces.Given as goal

-- the streams so far
abbrev pub invariant-loop-place : goal.invariant-loop-place
invariant-loop-place l = record {
  all : streams_behind [] l.parts.items ≡ streams_at (map (λ s. s.items) l.streams) (take l.place-index l.places);
  short : AreShort (streams_behind [] l.parts.items);
}
