use Rattle.std.proofs.Common.{◌≡◌, ◌++◌, map, drop}
use Rattle.cells.specs.View.{cell_behind, row_behind}
use Rattle.cells.specs.Dictionary.{cells_at}
use Rattle.cells.proofs.holding.cells_at.Given as goal

abbrev pub invariant-loop-row : goal.invariant-loop-row
invariant-loop-row l =
    map cell_behind l.cells.items ++ cells_at l.i (map row_behind (drop l.row-index l.rows)) ≡ cells_at l.i (map row_behind l.rows)
