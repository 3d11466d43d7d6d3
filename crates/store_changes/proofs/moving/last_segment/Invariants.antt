use Rattle.std.proofs.Common.{map}
use Rattle.catalogue.specs.Entries.{plain_entry}
use Rattle.store_changes.specs.Finding.{IsLastOf}
use Rattle.store_changes.proofs.moving.last_segment.Given as goal

-- the one that starts last so far
abbrev pub invariant-loop-table : goal.invariant-loop-table
invariant-loop-table l = IsLastOf (map plain_entry l.entries) l.table l.last
