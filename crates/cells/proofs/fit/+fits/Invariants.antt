use Rattle.std.proofs.Common.{◌≡◌, map, drop}
use Rattle.arrow_schema.specs.Column.{columns_of}
use Rattle.arrow_schema.specs.View.{column_of}
use Rattle.cells.specs.Cell.{cells_of}
use Rattle.cells.specs.View.{cell}
use Rattle.cells.specs.Fit.{fits, each_fits, all_cells}
use Rattle.cells.proofs.fit.+fits.Given as goal

abbrev pub invariant-all_fit-loop-value : goal.invariant-all_fit-loop-value
invariant-all_fit-loop-value l =
    all_cells (fits (column_of l.item)) (cells_of (map cell (drop l.value-index l.values))) ≡ all_cells (fits (column_of l.item)) (cells_of (map cell l.values))

abbrev pub invariant-each_fits-loop-i : goal.invariant-each_fits-loop-i
invariant-each_fits-loop-i l =
    each_fits (columns_of (map column_of (drop l.i l.fields))) (cells_of (map cell (drop l.i l.parts))) ≡ each_fits (columns_of (map column_of l.fields)) (cells_of (map cell l.parts))
