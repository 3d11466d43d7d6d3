use Rattle.std.proofs.Common.{◌≡◌, map, drop}
use Rattle.cells.specs.Dictionary.{with_entries}
use Rattle.table_cut.specs.inner.Seen.{entries_in}
use Rattle.columns.specs.Borrowed.{borrowed_cell}
use Rattle.table_cut.proofs.seen.note_all.Given as goal

abbrev pub invariant-loop-value : goal.invariant-loop-value
invariant-loop-value l = with_entries (entries_in l.entries) (map borrowed_cell (drop l.value-index l.values)) ≡ with_entries (entries_in l.fn.entries) (map borrowed_cell l.values)
