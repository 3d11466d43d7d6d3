use Rattle.std.proofs.Common.{◌≡◌, ◌++◌, ◌-◌, map, replicate}
use Rattle.cells.specs.Cell.{null}
use Rattle.columns.specs.Borrowed.{borrowed_cell}
use Rattle.batch_build.proofs.item_cells.add_nulls.Given as goal

abbrev pub invariant-loop : goal.invariant-loop
invariant-loop l = map borrowed_cell l.items.items ++ replicate (l.count - l.counter) null ≡ map borrowed_cell l.fn.items.items ++ replicate l.count null
