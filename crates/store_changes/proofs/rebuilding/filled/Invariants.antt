use Rattle.std.proofs.Common.{◌≡◌, ◌++◌, drop, map}
use Rattle.catalogue.specs.Entries.{plain_entry}
use Rattle.catalogue.specs.View.{catalogue_of}
use Rattle.store_runs.specs.Filling.{filled}
use Rattle.store_changes.proofs.rebuilding.filled.Given as goal

-- the tables so far and those that are left are all
abbrev pub invariant-loop-entry : goal.invariant-loop-entry
invariant-loop-entry l = record {
  all : map plain_entry l.entries.items ++ filled l.from (map plain_entry (drop l.entry-index l.entry-items)) l.rest ≡ filled l.from (catalogue_of l.made) l.others;
}
