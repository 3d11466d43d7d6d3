use Rattle.std.proofs.Common.{◌≡◌, take, map}
use Rattle.catalogue.specs.Entries.{plain_entry, segment_count}
use Rattle.catalogue.proofs.catalogue.Catalogue.segment_count.Given as goal

abbrev pub invariant-loop-entry : goal.invariant-loop-entry
invariant-loop-entry l = l.count ≡ segment_count (map plain_entry (take l.entry-index l.self.entries.items))
