use Rattle.std.proofs.Common.{◌≡◌, ◌+◌, map, drop}
use Rattle.arrow_schema.specs.Column.{columns_of}
use Rattle.arrow_schema.specs.View.{column_of}
use Rattle.cells.specs.Cell.{cells_of}
use Rattle.cells.specs.View.{cell}
use Rattle.cells.specs.Weight.{weight, parts_weight, sum_of, capped_weight}
use Rattle.cells.proofs.weigh.+weight.Given as goal

abbrev pub invariant-items_weight-loop-value : goal.invariant-items_weight-loop-value
invariant-items_weight-loop-value l =
    (capped_weight (l.total + sum_of (weight (column_of l.item)) (cells_of (map cell (drop l.value-index l.values)))) ≡ capped_weight (sum_of (weight (column_of l.item)) (cells_of (map cell l.values)))) × (capped_weight l.total ≡ l.total)

abbrev pub invariant-parts_weight-loop-i : goal.invariant-parts_weight-loop-i
invariant-parts_weight-loop-i l =
    (capped_weight (l.total + parts_weight (columns_of (map column_of (drop l.i l.fields))) (cells_of (map cell (drop l.i l.parts)))) ≡ capped_weight (parts_weight (columns_of (map column_of l.fields)) (cells_of (map cell l.parts)))) × (capped_weight l.total ≡ l.total)
