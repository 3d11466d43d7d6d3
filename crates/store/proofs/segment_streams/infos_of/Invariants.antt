-- The segments so far.
use Rattle.std.proofs.Common.{◌≡◌, map, take}
use Rattle.store.specs.SegmentStreams.{info_of}
use Rattle.store.proofs.segment_streams.infos_of.Given as goal

abbrev pub invariant-loop-segment : goal.invariant-loop-segment
invariant-loop-segment l = l.infos.items ≡ map info_of (take l.segment-index l.segments)
