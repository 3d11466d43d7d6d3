use Rattle.std.proofs.Common.{◌≡◌, map}
use Rattle.batch_build.specs.Batch.{batch_in, built_below, with_arrays}
use Rattle.array_build.specs.inner.Masked.{masked_parts}
use Rattle.dictionary_codes.specs.Masks.{slots_mask}
use Rattle.array_build.proofs.RunParts.{AreBehind, columns_behind, rows_behind}
use Rattle.array_build.proofs.by_runs.+by_runs.Given as goal
use Rattle.arrow_schema.specs.Column.{columns_of}
use Rattle.arrow_schema.specs.View.{column_of}

-- what is left of the fields can be built, and completes the batch
abbrev pub invariant-build_struct_parts-loop-place : goal.invariant-build_struct_parts-loop-place
invariant-build_struct_parts-loop-place l = record {
  behind : AreBehind l.place (columns_behind l.place l.fields) (slots_mask l.mask l.runs) l.runs;
  batch : with_arrays (batch_in l.batch) (built_below (columns_behind l.place l.fields) (rows_behind l.place (columns_behind l.place l.fields) (slots_mask l.mask l.runs) l.runs))
      ≡ with_arrays (batch_in l.fn.batch) (built_below (columns_of (map column_of l.fields)) (masked_parts (columns_of (map column_of l.fields)) l.mask l.runs));
}
