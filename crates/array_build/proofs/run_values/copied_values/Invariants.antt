use Rattle.std.specs.Prelude.{None}
use Rattle.std.proofs.Common.{◌≡◌, ◌++◌, true, drop}
use Rattle.std.specs.List.{flat_map}
use Rattle.arrow_schema.specs.View.{kind_of}
use Rattle.batch_build.specs.Batch.{plain_column}
use Rattle.array_build.specs.inner.Runs.{fixed_value, kind_cells}
use Rattle.columns.specs.Runs.{are_runs_sound}
use Rattle.array_build.proofs.run_values.copied_values.Given as goal

-- the values so far and the others
abbrev pub invariant-loop-run : goal.invariant-loop-run
invariant-loop-run l = record {
  sound : are_runs_sound (plain_column (kind_of l.data_type) None) (drop l.run-index l.runs) ≡ true;
  values : l.values.items ++ flat_map (fixed_value (kind_of l.data_type)) (kind_cells (kind_of l.data_type) (drop l.run-index l.runs))
      ≡ flat_map (fixed_value (kind_of l.data_type)) (kind_cells (kind_of l.data_type) l.runs);
}
