use Rattle.std.proofs.Common.{◌≡◌, ◌++◌, map, take}
use Rattle.cells.specs.View.{cell, cell_behind}
use Rattle.cells.proofs.holding.add_all.Given as goal

abbrev pub invariant-loop-value : goal.invariant-loop-value
invariant-loop-value l = map cell_behind l.items.items ≡ map cell_behind l.fn.items.items ++ map cell (take l.value-index l.values)
