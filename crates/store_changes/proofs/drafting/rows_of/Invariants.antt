use Rattle.std.proofs.Common.{◌≡◌, take}
use Rattle.store_changes.specs.laws.Drafting.{rows_in}
use Rattle.store_changes.proofs.drafting.rows_of.Given as goal

-- the numbers so far
abbrev pub invariant-loop-segment : goal.invariant-loop-segment
invariant-loop-segment l = record { all : l.rows.items ≡ rows_in (take l.segment-index l.segments) }
