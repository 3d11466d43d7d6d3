use Rattle.std.proofs.Common.{◌≡◌, ◌≤◌, ◌++◌, map, length, drop, vec_len, vec_capacity}
use Rattle.cells.specs.Dictionary.{part_list}
use Rattle.columns.specs.Built.{first_cell}
use Rattle.columns.specs.Borrowed.{borrowed_cell}
use Rattle.batch_build.proofs.part_cells.parts.Given as goal

abbrev pub invariant-loop-cell : goal.invariant-loop-cell
invariant-loop-cell l = record {
  cells : map borrowed_cell l.parts.items ++ map (λ r. first_cell (drop l.place r)) (map part_list (map borrowed_cell (drop l.cell-index l.cells)))
      ≡ map (λ r. first_cell (drop l.place r)) (map part_list (map borrowed_cell l.cells));
  len : vec_len l.parts ≡ l.cell-index;
  room : length l.cells ≤ vec_capacity l.parts;
}
