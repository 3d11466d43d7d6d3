use Rattle.std.proofs.Common.{◌≡◌, take}
use Rattle.store_runs.specs.Filling.{placed_in}
use Rattle.store_changes.proofs.rebuilding.placed_and.Given as goal

-- the segments so far that have places
abbrev pub invariant-loop-segment : goal.invariant-loop-segment
invariant-loop-segment l = record { all : l.all.items ≡ placed_in l.from (take l.segment-index l.segments) }
