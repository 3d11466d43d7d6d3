use Rattle.std.proofs.Common.{◌≡◌, ◌+◌, map, drop}
use Rattle.arrow_schema.specs.Column.{columns_of}
use Rattle.arrow_schema.specs.View.{column_of}
use Rattle.cells.specs.Cell.{cells_of, no_cell}
use Rattle.cells.specs.Weight.{weight, parts_weight, sum_of, capped_weight}
use Rattle.columns.specs.Borrowed.{borrowed_cells, values_left}
use Rattle.table_cut.proofs.weigh.+weight.Given as goal

abbrev pub invariant-items_weight-loop-value : goal.invariant-items_weight-loop-value
invariant-items_weight-loop-value l =
    (capped_weight (l.total + sum_of (weight (column_of l.item)) (cells_of (values_left l.value-iterator))) ≡ capped_weight (sum_of (weight (column_of l.item)) (cells_of (borrowed_cells l.fn.items)))) × (capped_weight l.total ≡ l.total)

abbrev pub invariant-nulls_weight-loop-field : goal.invariant-nulls_weight-loop-field
invariant-nulls_weight-loop-field l =
    (capped_weight (l.total + parts_weight (columns_of (map column_of (drop l.field-index l.fields))) no_cell) ≡ capped_weight (parts_weight (columns_of (map column_of l.fields)) no_cell)) × (capped_weight l.total ≡ l.total)

abbrev pub invariant-parts_weight-loop-i : goal.invariant-parts_weight-loop-i
invariant-parts_weight-loop-i l =
    (capped_weight (l.total + parts_weight (columns_of (map column_of (drop l.i l.fields))) (cells_of (drop l.i (borrowed_cells l.parts)))) ≡ capped_weight (parts_weight (columns_of (map column_of l.fields)) (cells_of (borrowed_cells l.parts)))) × (capped_weight l.total ≡ l.total)
