use Rattle.std.proofs.Common.{◌≡◌, ◌≤◌, ◌+◌, ◌++◌, length, map, vec_len, vec_capacity}
use Rattle.cells.specs.Cell.{cells_of}
use Rattle.cells.specs.View.{cell}
use Rattle.columns.specs.Borrowed.{borrowed_cells, values_left}
use Rattle.columns.specs.laws.Nodes.{nodes_all, value_depth, values_depth}
use Rattle.values.proofs.copying.+copy.Given as goal

abbrev pub decreases-copy_value : goal.decreases-copy_value
decreases-copy_value l = value_depth l.value

abbrev pub decreases-copy_values : goal.decreases-copy_values
decreases-copy_values l = values_depth l.values

abbrev pub invariant-copy_values-loop-value : goal.invariant-copy_values-loop-value
invariant-copy_values-loop-value l = record {
  cells : map cell l.copies.items ++ values_left l.value-iterator ≡ borrowed_cells l.fn.values;
  room : vec_len l.copies + length (values_left l.value-iterator) ≤ vec_capacity l.copies;
  below : nodes_all (cells_of (values_left l.value-iterator)) ≤ nodes_all (cells_of (borrowed_cells l.fn.values));
}
