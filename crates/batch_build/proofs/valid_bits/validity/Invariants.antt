use Rattle.std.proofs.Common.{◌≡◌, ◌≤◌, ◌++◌, map, drop, length, vec_len, vec_capacity}
use Rattle.cells.specs.Nulls.{is_there}
use Rattle.columns.specs.Borrowed.{borrowed_cell}
use Rattle.batch_build.proofs.valid_bits.validity.Given as goal

abbrev pub invariant-loop-cell : goal.invariant-loop-cell
invariant-loop-cell l = record {
  bits : l.bits.items ++ map is_there (map borrowed_cell (drop l.cell-index l.cells)) ≡ map is_there (map borrowed_cell l.cells);
  len : vec_len l.bits ≡ l.cell-index;
  room : length l.cells ≤ vec_capacity l.bits;
}
