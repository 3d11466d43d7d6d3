use Rattle.std.proofs.Common.{◌≡◌, take, map}
use Rattle.catalogue.specs.Entries.{plain_entry, plain_root}
use Rattle.pages.specs.Paging.{root_of}
use Rattle.pages.proofs.paging.root_of.Given as goal

abbrev pub invariant-loop-entry : goal.invariant-loop-entry
invariant-loop-entry l = map plain_root l.root.items ≡ root_of (map plain_entry (take l.entry-index l.entries))
