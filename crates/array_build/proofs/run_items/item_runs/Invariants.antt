use Rattle.std.proofs.Common.{◌≡◌, ◌≤◌, drop, length, vec_len, vec_capacity}
use Rattle.array_build.proofs.RunItems.{AreItemsLeft}
use Rattle.array_build.proofs.run_items.item_runs.Given as goal
use Rattle.batch_build.specs.Nodes.{list_kind}
use Rattle.array_build.specs.inner.RunItems.{list_column}
use Rattle.array_build.specs.inner.Runs.{is_run_as_written}
use Rattle.arrow_schema.specs.View.{column_of}
use Rattle.cells.specs.Dictionary.{item_list}

abbrev pub invariant-loop-run : goal.invariant-loop-run
invariant-loop-run l = record {
  items : AreItemsLeft (is_run_as_written (list_kind l.width (column_of l.item))) item_list (list_column l.width (column_of l.item)) (column_of l.item) l.runs (drop l.run-index l.runs) l.items.items;
  len : vec_len l.items ≡ l.run-index;
  room : length l.runs ≤ vec_capacity l.items;
}
