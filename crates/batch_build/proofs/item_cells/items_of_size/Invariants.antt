use Rattle.std.proofs.Common.{◌≡◌, ◌++◌, map, drop}
use Rattle.std.specs.List.{flat_map}
use Rattle.columns.specs.Built.{fixed_items}
use Rattle.columns.specs.Borrowed.{borrowed_cell}
use Rattle.batch_build.proofs.item_cells.items_of_size.Given as goal

abbrev pub invariant-loop-cell : goal.invariant-loop-cell
invariant-loop-cell l =
    map borrowed_cell l.items.items ++ flat_map (fixed_items l.size) (map borrowed_cell (drop l.cell-index l.cells)) ≡ flat_map (fixed_items l.size) (map borrowed_cell l.cells)
