use Rattle.std.proofs.Common.{◌≡◌, ◌≤◌, ◌+◌, take, map}
use Rattle.std.specs.List.{sum_by}
use Rattle.catalogue.specs.Entries.{plain_entry}
use Rattle.catalogue.specs.Text.{entry_size}
use Rattle.pages.proofs.paging.is_whole.Given as goal

abbrev pub invariant-loop-entry : goal.invariant-loop-entry
invariant-loop-entry l = record { size : l.size ≡ 4 + sum_by entry_size (map plain_entry (take l.entry-index l.entries)); most : l.size ≤ 512 }
