use Rattle.store_changes.specs.Finding.{IsLastIn}
use Rattle.store_changes.proofs.moving.last_in.Given as goal

-- the one that starts last so far
abbrev pub invariant-loop-place : goal.invariant-loop-place
invariant-loop-place l = IsLastIn l.table l.segments l.place l.last
