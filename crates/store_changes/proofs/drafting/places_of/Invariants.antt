use Rattle.std.proofs.Common.{take}
use Rattle.store_changes.specs.Draft.{ArePlaces}
use Rattle.store_changes.proofs.drafting.places_of.Given as goal

-- the places so far
abbrev pub invariant-loop-segment : goal.invariant-loop-segment
invariant-loop-segment l = record { are : ArePlaces l.starts (take l.segment-index l.segments) l.places.items }
