use Rattle.std.specs.List.{flat_map}
use Rattle.std.proofs.Common.{◌≡◌, ◌≤◌, ◌++◌, true, drop, length, vec_len, vec_capacity}
use Rattle.array_build.proofs.run_fixed_items.fixed_item_runs.Given as goal
use Rattle.array_build.specs.inner.RunItems.{fixed_below, fixed_column}
use Rattle.arrow_schema.specs.View.{column_of}
use Rattle.columns.specs.Runs.{are_runs_sound, runs_cells}

-- the items so far and those of the other runs
abbrev pub invariant-loop-run : goal.invariant-loop-run
invariant-loop-run l = record {
  left : are_runs_sound (fixed_column l.size (column_of l.item)) (drop l.run-index l.runs) ≡ true;
  cells : runs_cells (column_of l.item) l.items.items ++ flat_map (fixed_below l.size (column_of l.item)) (drop l.run-index l.runs)
      ≡ flat_map (fixed_below l.size (column_of l.item)) l.runs;
  sound : are_runs_sound (column_of l.item) l.items.items ≡ true;
  len : vec_len l.items ≡ l.run-index;
  room : length l.runs ≤ vec_capacity l.items;
}
