use Rattle.std.proofs.Common.{◌≡◌, ◌≤◌, ◌*◌, take}
use Rattle.std.specs.List.{sum_by}
use Rattle.catalogue.specs.Text.{segment_size}
use Rattle.catalogue.proofs.encoding.segments_size.Given as goal

abbrev pub invariant-loop-segment : goal.invariant-loop-segment
invariant-loop-segment l = record { size : l.size ≡ sum_by segment_size (take l.segment-index l.segments); most : l.size ≤ 64 * l.segment-index }
