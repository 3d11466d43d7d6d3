use Rattle.std.proofs.Common.{◌≡◌, map, drop}
use Rattle.std.specs.List.{list_all}
use Rattle.cells.specs.Nulls.{is_there}
use Rattle.columns.specs.Borrowed.{borrowed_cell}
use Rattle.batch_build.proofs.valid_bits.are_all_there.Given as goal

abbrev pub invariant-loop-cell : goal.invariant-loop-cell
invariant-loop-cell l = list_all is_there (map borrowed_cell (drop l.cell-index l.cells)) ≡ list_all is_there (map borrowed_cell l.cells)
