use Rattle.std.proofs.Common.{◌≡◌, ◌≤◌, ◌++◌, drop, length, vec_len, vec_capacity}
use Rattle.segments.specs.Pieces.{plain_pieces}
use Rattle.segments.specs.Writing.{runs_of}
use Rattle.store_changes.specs.Prepared.{in_runs}
use Rattle.store_changes.proofs.editing.in_runs.Given as goal

-- the segments so far and those that are left are all, and there is room for the others
abbrev pub invariant-loop-place : goal.invariant-loop-place
invariant-loop-place l = record {
  all : l.placed.items ++ in_runs (runs_of (plain_pieces (drop l.place l.pieces))) (drop l.place l.segments) ≡ in_runs (runs_of (plain_pieces l.pieces)) l.segments;
  len : vec_len l.placed ≡ l.place;
  room : length l.pieces ≤ vec_capacity l.placed;
}
