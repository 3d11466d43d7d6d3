use Rattle.std.proofs.Common.{◌≡◌, take}
use Rattle.std.specs.List.{sum_by}
use Rattle.catalogue.specs.declared.entry.Segment.{Segment}
use Rattle.store_changes.proofs.lightness.sizes_of.Given as goal

-- those of the first segments
abbrev pub invariant-loop-segment : goal.invariant-loop-segment
invariant-loop-segment l = record {
  rows : l.rows ≡ sum_by (λ (g : Segment). g.rows) (take l.segment-index l.segments);
  bytes : l.bytes ≡ sum_by (λ (g : Segment). g.place.bytes) (take l.segment-index l.segments);
}
