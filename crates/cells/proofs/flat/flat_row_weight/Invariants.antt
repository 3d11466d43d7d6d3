use Rattle.std.proofs.Common.{◌≡◌, ◌+◌, map, drop}
use Rattle.arrow_schema.specs.Column.{columns_of}
use Rattle.arrow_schema.specs.View.{column_of}
use Rattle.cells.specs.Cell.{cells_of}
use Rattle.cells.specs.View.{cell}
use Rattle.cells.specs.Fit.{each_fits}
use Rattle.cells.specs.Weight.{parts_weight, capped_weight}
use Rattle.cells.proofs.flat.flat_row_weight.Given as goal

abbrev pub invariant-loop-i : goal.invariant-loop-i
invariant-loop-i l = record {
  fits : each_fits (columns_of (map column_of (drop l.i l.fields))) (cells_of (map cell (drop l.i l.row))) ≡ each_fits (columns_of (map column_of l.fields)) (cells_of (map cell l.row));
  weight : capped_weight (l.total + parts_weight (columns_of (map column_of (drop l.i l.fields))) (cells_of (map cell (drop l.i l.row))))
      ≡ capped_weight (1 + parts_weight (columns_of (map column_of l.fields)) (cells_of (map cell l.row)));
  total : capped_weight l.total ≡ l.total;
}
