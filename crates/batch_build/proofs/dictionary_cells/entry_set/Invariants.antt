use Rattle.std.proofs.Common.{◌≡◌, map, drop}
use Rattle.cells.specs.Dictionary.{with_entries, entries_of}
use Rattle.cells.specs.Entry.{entry_cell}
use Rattle.columns.specs.Borrowed.{borrowed_cell}
use Rattle.batch_build.proofs.dictionary_cells.entry_set.Given as goal

abbrev pub invariant-loop-cell : goal.invariant-loop-cell
invariant-loop-cell l = record {
  entries : with_entries (map entry_cell l.entries.keys) (map borrowed_cell (drop l.cell-index l.cells)) ≡ entries_of (map borrowed_cell l.cells);
  firsts : map borrowed_cell l.firsts.items ≡ map entry_cell l.entries.keys;
}
