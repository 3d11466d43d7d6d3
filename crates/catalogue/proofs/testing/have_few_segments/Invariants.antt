use Rattle.std.proofs.Common.{◌≡◌, ◌+◌, take, map}
use Rattle.catalogue.specs.declared.limits.TheConstants.{MAX_SEGMENTS}
use Rattle.catalogue.specs.Entries.{segment_count, plain_entry}
use Rattle.catalogue.proofs.testing.have_few_segments.Given as goal

abbrev pub invariant-loop-entry : goal.invariant-loop-entry
invariant-loop-entry l = segment_count (map plain_entry (take l.entry-index l.entries)) + l.left ≡ MAX_SEGMENTS
