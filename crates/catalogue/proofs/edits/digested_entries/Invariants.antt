use Rattle.std.proofs.Common.{◌≡◌, ◌++◌, length, drop, map}
use Rattle.catalogue.specs.Entries.{plain_entry, segment_count}
use Rattle.catalogue.specs.Edits.{digested}
use Rattle.catalogue.proofs.edits.digested_entries.Given as goal

-- those so far have their digests, and behind them there are as many left as the others have segments
abbrev pub invariant-loop-entry : goal.invariant-loop-entry
invariant-loop-entry l = record {
  left : segment_count (drop l.entry-index (map plain_entry l.entries)) ≡ length l.rest;
  so_far : map plain_entry l.all.items ++ digested (drop l.entry-index (map plain_entry l.entries)) l.rest ≡ digested (map plain_entry l.entries) l.digests;
}
