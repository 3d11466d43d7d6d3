use Rattle.std.proofs.Common.{◌≡◌, take}
use Rattle.store_changes.specs.laws.Drafting.{low_runs}
use Rattle.store_changes.proofs.drafting.low_runs.Given as goal

-- those so far that start before the sector
abbrev pub invariant-loop-run : goal.invariant-loop-run
invariant-loop-run l = record { low : l.low.items ≡ low_runs l.from (take l.run-index l.runs) }
