use Rattle.std.proofs.Common.{◌≡◌, ◌≤◌, ◌++◌, drop, length, vec_len, vec_capacity}
use Rattle.commit.specs.Placing.{plain_contents}
use Rattle.store_runs.specs.Carrying.{unplaced}
use Rattle.store_changes.proofs.editing.unplaced.Given as goal

-- the segments so far and those that are left are all, and there is room for the others
abbrev pub invariant-loop-place : goal.invariant-loop-place
invariant-loop-place l = record {
  all : l.segments.items ++ unplaced l.fn.version (plain_contents (drop l.place l.streams)) (drop l.place l.rows) ≡ unplaced l.fn.version (plain_contents l.streams) l.rows;
  len : vec_len l.segments ≡ l.place;
  room : length l.streams ≤ vec_capacity l.segments;
}
