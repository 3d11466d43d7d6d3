use Rattle.std.proofs.Common.{◌≡◌, take, map, flat_map}
use Rattle.catalogue.specs.Entries.{PlainEntry, plain_entry, page_runs}
use Rattle.pages.proofs.paging.runs_of_pages.Given as goal

abbrev pub invariant-loop-entry : goal.invariant-loop-entry
invariant-loop-entry l = l.runs.items ≡ flat_map (λ (e : PlainEntry). page_runs e.page) (map plain_entry (take l.entry-index l.entries))
