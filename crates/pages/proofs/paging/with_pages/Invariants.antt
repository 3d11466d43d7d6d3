use Rattle.std.proofs.Common.{◌≡◌, map}
use Rattle.catalogue.specs.Entries.{plain_entry}
use Rattle.catalogue.specs.Text.{table_text}
use Rattle.commit.specs.Placing.{plain_contents}
use Rattle.pages.specs.Paging.{pageless, with_pages}
use Rattle.pages.proofs.paging.with_pages.Given as goal

abbrev pub invariant-loop-entry : goal.invariant-loop-entry
invariant-loop-entry l = record {
  next : goal.iterator-loop-entry.can_next l.entry-iterator;
  ends : goal.iterator-loop-entry.is_finite l.entry-iterator;
  made : map plain_entry l.entries.items ≡ with_pages (map plain_entry l.yielded) l.runs;
  texts : plain_contents l.texts.items ≡ map table_text (pageless (map plain_entry l.yielded));
}
