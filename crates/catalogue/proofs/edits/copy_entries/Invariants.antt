use Rattle.std.proofs.Common.{◌≡◌, take, map}
use Rattle.catalogue.specs.Entries.{plain_entry}
use Rattle.catalogue.proofs.edits.copy_entries.Given as goal

abbrev pub invariant-loop-entry : goal.invariant-loop-entry
invariant-loop-entry l = map plain_entry l.copies.items ≡ map plain_entry (take l.entry-index l.entries)
