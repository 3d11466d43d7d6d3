use Rattle.std.proofs.Common.{◌≡◌, take, map}
use Rattle.catalogue.specs.Entries.{plain_entry}
use Rattle.catalogue.specs.Text.{table_size}
use Rattle.pages.specs.Paging.{pageless}
use Rattle.pages.proofs.paging.page_sizes.Given as goal

abbrev pub invariant-loop-entry : goal.invariant-loop-entry
invariant-loop-entry l = l.sizes.items ≡ map table_size (pageless (map plain_entry (take l.entry-index l.entries)))
