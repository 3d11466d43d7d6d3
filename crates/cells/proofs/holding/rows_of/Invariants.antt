use Rattle.std.proofs.Common.{◌≡◌, map, take}
use Rattle.cells.specs.View.{cell_behind, row_behind}
use Rattle.cells.specs.Dictionary.{part_list}
use Rattle.cells.proofs.holding.rows_of.Given as goal

abbrev pub invariant-loop-cell : goal.invariant-loop-cell
invariant-loop-cell l = map row_behind l.rows.items ≡ map part_list (map cell_behind (take l.cell-index l.cells))
