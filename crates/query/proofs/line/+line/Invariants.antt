use Rattle.std.proofs.Common.{◌≡◌, ◌≤◌, ◌++◌}
use Rattle.cells.specs.Cell.{cells_of}
use Rattle.columns.specs.Borrowed.{borrowed_cells, values_left}
use Rattle.query.specs.Line.{json_of_others}
use Rattle.columns.specs.laws.Nodes.{nodes_all, value_depth, array_depth, values_depth}
use Rattle.query.proofs.line.+line.Given as goal

abbrev pub decreases-push_value : goal.decreases-push_value
decreases-push_value l = value_depth l.value

abbrev pub decreases-push_array : goal.decreases-push_array
decreases-push_array l = array_depth l.values

abbrev pub decreases-push_values : goal.decreases-push_values
decreases-push_values l = values_depth l.values

abbrev pub invariant-push_values-loop-value : goal.invariant-push_values-loop-value
invariant-push_values-loop-value l = record {
  text : l.out.items ++ json_of_others (cells_of (values_left l.value-iterator)) ≡ l.initial.out.items ++ json_of_others (cells_of (values_left l.initial.value-iterator));
  below : nodes_all (cells_of (values_left l.value-iterator)) ≤ nodes_all (cells_of (borrowed_cells l.fn.values));
}
