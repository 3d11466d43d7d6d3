use Rattle.std.proofs.Common.{◌≡◌, drop}
use Rattle.batch_build.specs.Batch.{batch_in, with_arrays}
use Rattle.array_build.proofs.RunColumns.{AreLeft, built_left, lists_of}
use Rattle.array_build.proofs.by_runs.build_run_parts.Given as goal

-- what is left of the columns can be built, and completes the batch
abbrev pub invariant-loop-place : goal.invariant-loop-place
invariant-loop-place l = record {
  left : AreLeft (drop l.place l.fields) (lists_of (drop l.place l.columns));
  batch : with_arrays (batch_in l.batch) (built_left (drop l.place l.fields) (drop l.place l.columns)) ≡ with_arrays (batch_in l.fn.batch) (built_left l.fields l.columns);
}
