use Rattle.std.specs.Prelude.{None}
use Rattle.std.proofs.Common.{◌≡◌, ◌≤◌, ◌++◌, true, drop, length, vec_len, vec_capacity}
use Rattle.std.specs.List.{flat_map}
use Rattle.arrow_schema.specs.View.{kind_of}
use Rattle.batch_build.specs.Batch.{joined_slices, plain_column}
use Rattle.array_build.specs.inner.Runs.{fixed_value, kind_cells}
use Rattle.columns.specs.Runs.{are_runs_sound}
use Rattle.array_build.proofs.run_values.written_slices.Given as goal

-- the slices so far and the values of the other runs
abbrev pub invariant-loop-run : goal.invariant-loop-run
invariant-loop-run l = record {
  sound : are_runs_sound (plain_column (kind_of l.data_type) None) (drop l.run-index l.runs) ≡ true;
  values : joined_slices l.slices.items ++ flat_map (fixed_value (kind_of l.data_type)) (kind_cells (kind_of l.data_type) (drop l.run-index l.runs))
      ≡ flat_map (fixed_value (kind_of l.data_type)) (kind_cells (kind_of l.data_type) l.runs);
  len : vec_len l.slices ≡ l.run-index;
  room : length l.runs ≤ vec_capacity l.slices;
}
