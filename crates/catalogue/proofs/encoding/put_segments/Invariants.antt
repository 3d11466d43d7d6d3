use Rattle.std.proofs.Common.{◌≡◌, ◌++◌, length, take}
use Rattle.std.specs.List.{flat_map}
use Rattle.byteorder.specs.Endian.{little_bytes}
use Rattle.catalogue.specs.Text.{segment_text}
use Rattle.catalogue.proofs.encoding.put_segments.Given as goal

abbrev pub invariant-loop-segment : goal.invariant-loop-segment
invariant-loop-segment l = l.out.items ≡ l.fn.out.items ++ (little_bytes 4 (length l.segments) ++ flat_map segment_text (take l.segment-index l.segments))
