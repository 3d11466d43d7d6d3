use Rattle.std.proofs.Common.{◌≡◌, ◌++◌, take}
use Rattle.store_runs.specs.Filling.{new_in}
use Rattle.store_changes.proofs.rebuilding.put_new.Given as goal

-- the new ones so far were appended
abbrev pub invariant-loop-segment : goal.invariant-loop-segment
invariant-loop-segment l = record { all : l.all.items ≡ l.fn.all.items ++ new_in l.from (take l.segment-index l.segments) }
