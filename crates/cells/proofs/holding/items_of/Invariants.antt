use Rattle.std.proofs.Common.{◌≡◌, ◌++◌, map, drop}
use Rattle.std.specs.List.{flat_map}
use Rattle.cells.specs.View.{cell_behind}
use Rattle.cells.specs.Dictionary.{item_list}
use Rattle.cells.proofs.holding.items_of.Given as goal

abbrev pub invariant-loop-cell : goal.invariant-loop-cell
invariant-loop-cell l =
    map cell_behind l.items.items ++ flat_map item_list (map cell_behind (drop l.cell-index l.cells)) ≡ flat_map item_list (map cell_behind l.cells)
