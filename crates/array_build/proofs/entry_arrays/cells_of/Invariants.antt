use Rattle.std.proofs.Common.{◌≡◌, ◌≤◌, ◌+◌, ◌++◌, drop, length, map, vec_len, vec_capacity}
use Rattle.cells.specs.Entry.{entry_cell}
use Rattle.columns.specs.Borrowed.{borrowed_cell}
use Rattle.array_build.proofs.entry_arrays.cells_of.Given as goal

-- those that are made, and those that are left
abbrev pub invariant-loop-entry : goal.invariant-loop-entry
invariant-loop-entry l = record {
  cells : map borrowed_cell l.cells.items ++ map entry_cell (drop l.entry-index l.entries) ≡ map entry_cell l.entries;
  room : vec_len l.cells + length (drop l.entry-index l.entries) ≤ vec_capacity l.cells;
}
