use Rattle.std.specs.Prelude.{None}
use Rattle.std.proofs.Common.{◌≡◌, ◌++◌, true, drop}
use Rattle.arrow_schema.specs.Column.{booleans}
use Rattle.batch_build.specs.Batch.{plain_column}
use Rattle.array_build.specs.inner.Runs.{runs_values}
use Rattle.columns.specs.Runs.{are_runs_sound}
use Rattle.array_build.proofs.run_bits.written_booleans.Given as goal

-- the bits so far and the others
abbrev pub invariant-loop-run : goal.invariant-loop-run
invariant-loop-run l = record {
  sound : are_runs_sound (plain_column booleans None) (drop l.run-index l.runs) ≡ true;
  values : l.bits ++ runs_values (drop l.run-index l.runs) ≡ runs_values l.runs;
}
