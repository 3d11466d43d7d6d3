use Rattle.std.proofs.Common.{◌≡◌, ◌++◌, map, drop}
use Rattle.cells.specs.Dictionary.{part_list, cells_at}
use Rattle.columns.specs.Borrowed.{borrowed_cell}
use Rattle.table_cut.proofs.holding.parts_at.Given as goal

abbrev pub invariant-loop-cell : goal.invariant-loop-cell
invariant-loop-cell l =
    map borrowed_cell l.parts.items ++ cells_at l.i (map part_list (map borrowed_cell (drop l.cell-index l.cells))) ≡ cells_at l.i (map part_list (map borrowed_cell l.cells))
