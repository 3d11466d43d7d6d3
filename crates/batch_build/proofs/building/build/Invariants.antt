use Rattle.std.proofs.Common.{◌≡◌, true, map}
use Rattle.arrow_schema.specs.Column.{columns_of}
use Rattle.arrow_schema.specs.View.{column_of}
use Rattle.batch_build.specs.Batch.{batch_in, batch_of, built_below, with_arrays}
use Rattle.columns.specs.Buildable.{can_build_parts}
use Rattle.columns.specs.Borrowed.{borrowed_cells}
use Rattle.batch_build.proofs.PartColumns.{rows_from, columns_from}
use Rattle.batch_build.proofs.building.build.Given as goal

-- what is left of the columns can be built, and completes the batch
abbrev pub invariant-loop-place : goal.invariant-loop-place
invariant-loop-place l =
    let left = columns_from l.place l.fields in
    let rows = map borrowed_cells l.rows in
    record {
      can : can_build_parts left (rows_from l.place rows) ≡ true;
      batch : with_arrays (batch_in l.batch) (built_below left (rows_from l.place rows)) ≡ batch_of (built_below (columns_of (map column_of l.fields)) rows);
    }
