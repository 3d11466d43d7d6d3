use Rattle.std.proofs.Common.{◌≡◌, map, take, flat_map}
use Rattle.catalogue.specs.Entries.{plain_entry}
use Rattle.store_runs.specs.Changes.{lost_page}
use Rattle.store_changes.proofs.editing.lost_pages.Given as goal

-- the pages of the tables so far
abbrev pub invariant-loop-entry : goal.invariant-loop-entry
invariant-loop-entry l = record { all : l.runs.items ≡ flat_map lost_page (map plain_entry (take l.entry-index l.entries)) }
