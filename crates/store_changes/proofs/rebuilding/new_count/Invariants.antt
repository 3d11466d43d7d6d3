use Rattle.std.proofs.Common.{◌≡◌, ◌≤◌, length, take}
use Rattle.store_runs.specs.Filling.{new_in}
use Rattle.store_changes.proofs.rebuilding.new_count.Given as goal

-- the new segments so far are counted
abbrev pub invariant-loop-segment : goal.invariant-loop-segment
invariant-loop-segment l = record { count : l.count ≡ length (new_in l.from (take l.segment-index l.segments)); few : l.count ≤ l.segment-index }
