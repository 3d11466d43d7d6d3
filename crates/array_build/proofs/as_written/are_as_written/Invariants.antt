use Rattle.std.specs.Prelude.{None}
use Rattle.std.proofs.Common.{◌≡◌, true, drop}
use Rattle.arrow_schema.specs.View.{kind_of}
use Rattle.batch_build.specs.Batch.{plain_column}
use Rattle.array_build.specs.inner.Runs.{are_runs_as_written}
use Rattle.columns.specs.Runs.{are_runs_sound}
use Rattle.array_build.proofs.as_written.are_as_written.Given as goal

-- the runs so far stand as they are written
abbrev pub invariant-loop-run : goal.invariant-loop-run
invariant-loop-run l =
    let kind = kind_of l.data_type in
    record {
      sound : are_runs_sound (plain_column kind None) (drop l.run-index l.runs) ≡ true;
      written : are_runs_as_written kind (drop l.run-index l.runs) ≡ are_runs_as_written kind l.runs;
    }
