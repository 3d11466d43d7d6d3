use Rattle.std.proofs.Common.{◌≡◌, ◌≤◌, ◌++◌, map, drop, length, vec_len, vec_capacity}
use Rattle.columns.specs.Built.{is_set}
use Rattle.columns.specs.Borrowed.{borrowed_cell}
use Rattle.batch_build.proofs.boolean_bits.bits.Given as goal

abbrev pub invariant-loop-cell : goal.invariant-loop-cell
invariant-loop-cell l = record {
  bits : l.bits.items ++ map is_set (map borrowed_cell (drop l.cell-index l.cells)) ≡ map is_set (map borrowed_cell l.cells);
  len : vec_len l.bits ≡ l.cell-index;
  room : length l.cells ≤ vec_capacity l.bits;
}
