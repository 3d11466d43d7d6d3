use Rattle.std.proofs.Common.{◌≡◌, ◌≤◌, ◌+◌, ◌++◌, length, take, vec_len, vec_capacity}
use Rattle.segments.specs.Pieces.{plain_pieces}
use Rattle.segments.specs.Writing.{runs_of}
use Rattle.commit.specs.Placing.{contents_of, plain_contents}
use Rattle.commit.proofs.placing.pieces_of.Given as goal

abbrev pub invariant-loop-parts : goal.invariant-loop-parts
invariant-loop-parts l = record {
  next : goal.iterator-loop-parts.can_next l.parts-iterator;
  ends : goal.iterator-loop-parts.is_finite l.parts-iterator;
  room : vec_capacity l.fn.pieces ≤ vec_capacity l.pieces;
  count : vec_len l.pieces ≡ vec_len l.fn.pieces + length l.yielded;
  contents : contents_of (plain_pieces l.pieces.items) ≡ contents_of (plain_pieces l.fn.pieces.items) ++ plain_contents l.yielded;
  runs : runs_of (plain_pieces l.pieces.items) ≡ take (vec_len l.pieces) l.runs;
}
