use Rattle.std.proofs.Common.{◌≡◌, map}
use Rattle.catalogue.specs.Entries.{plain_entry, bare}
use Rattle.pages.proofs.paging.without_pages.Given as goal

abbrev pub invariant-loop-entry : goal.invariant-loop-entry
invariant-loop-entry l = record {
  next : goal.iterator-loop-entry.can_next l.entry-iterator;
  ends : goal.iterator-loop-entry.is_finite l.entry-iterator;
  made : map plain_entry l.entries.items ≡ map bare (map plain_entry l.yielded);
}
