use Rattle.std.proofs.Common.{◌≡◌, take, map}
use Rattle.catalogue.specs.Entries.{plain_entry, runs_of}
use Rattle.catalogue.proofs.catalogue.Catalogue.runs.Given as goal

abbrev pub invariant-loop-entry : goal.invariant-loop-entry
invariant-loop-entry l = l.runs.items ≡ runs_of (map plain_entry (take l.entry-index l.self.entries.items))
