use Rattle.std.proofs.Common.{◌≡◌, ◌≤◌, ◌++◌, map, length, drop, vec_len, vec_capacity}
use Rattle.columns.specs.Built.{first_cell}
use Rattle.columns.specs.Borrowed.{borrowed_cell, borrowed_cells}
use Rattle.batch_build.proofs.part_cells.cells_at.Given as goal

abbrev pub invariant-loop-row : goal.invariant-loop-row
invariant-loop-row l = record {
  cells : map borrowed_cell l.cells.items ++ map (λ r. first_cell (drop l.place r)) (map borrowed_cells (drop l.row-index l.rows))
      ≡ map (λ r. first_cell (drop l.place r)) (map borrowed_cells l.rows);
  len : vec_len l.cells ≡ l.row-index;
  room : length l.rows ≤ vec_capacity l.cells;
}
