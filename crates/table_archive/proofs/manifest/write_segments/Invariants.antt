-- The tokens so far and those of the segments that are left are all tokens.
use Rattle.std.proofs.Common.{◌≡◌, ◌++◌, drop}
use Rattle.std.specs.Prelude.{flat_map}
use Rattle.table_archive.specs.Manifest.{segment_tokens}
use Rattle.table_archive.proofs.manifest.write_segments.Given as goal

abbrev pub invariant-loop-segment : goal.invariant-loop-segment
invariant-loop-segment l =
    (l.writer.tokens ++ flat_map segment_tokens (drop l.segment-index l.segments) ≡ l.fn.writer.tokens ++ flat_map segment_tokens l.segments)
    × (l.writer.before ≡ l.fn.writer.before)
