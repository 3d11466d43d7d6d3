use Rattle.std.proofs.Common.{◌≡◌, drop, map}
use Rattle.std.specs.List.{list_all}
use Rattle.catalogue.specs.Entries.{is_entry, plain_entry}
use Rattle.catalogue.proofs.testing.are_sound.Given as goal

abbrev pub invariant-loop-entry : goal.invariant-loop-entry
invariant-loop-entry l = list_all is_entry (map plain_entry (drop l.entry-index l.entries)) ≡ list_all is_entry (map plain_entry l.entries)
