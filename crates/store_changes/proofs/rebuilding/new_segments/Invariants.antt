use Rattle.std.proofs.Common.{◌≡◌, map, take}
use Rattle.catalogue.specs.Entries.{plain_entry}
use Rattle.store_runs.specs.Filling.{new_segments}
use Rattle.store_changes.proofs.rebuilding.new_segments.Given as goal

-- those of the tables so far
abbrev pub invariant-loop-entry : goal.invariant-loop-entry
invariant-loop-entry l = record { all : l.all.items ≡ new_segments l.from (map plain_entry (take l.entry-index l.entry-items)) }
