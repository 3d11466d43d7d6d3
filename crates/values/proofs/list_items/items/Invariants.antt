use Rattle.std.proofs.Common.{◌≡◌, ◌++◌, map, drop}
use Rattle.std.specs.List.{flat_map}
use Rattle.cells.specs.Dictionary.{item_list}
use Rattle.columns.specs.Borrowed.{borrowed_cell}
use Rattle.values.proofs.list_items.items.Given as goal

abbrev pub invariant-loop-cell : goal.invariant-loop-cell
invariant-loop-cell l = map borrowed_cell l.items.items ++ flat_map item_list (map borrowed_cell (drop l.cell-index l.cells)) ≡ flat_map item_list (map borrowed_cell l.cells)
