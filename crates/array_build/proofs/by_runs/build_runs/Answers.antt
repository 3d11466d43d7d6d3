use Rattle.std.proofs.Common.{◌∙◌, List, ap, map}
use Rattle.arrow_schema.specs.Column.{Columns, columns_of}
use Rattle.arrow_schema.specs.View.{column_of}
use Rattle.array_build.proofs.RunColumns.{lists_of, rows_built}
use Rattle.array_build.proofs.by_runs.build_runs.Goals as goal
use Rattle.batch_build.specs.Batch.{PlainBatch, batch_of, with_arrays}
use Rattle.array_build.specs.inner.Runs.{built_columns}
use Rattle.columns.specs.declared.slot_runs.SlotRun.{SlotRun}
use Rattle.columns.specs.Tests.{Typed}

pub returns : goal.returns
returns c = λ rows have.
    let cs : Columns = columns_of (map column_of c.args.fields.now) in
    let rs : List (List SlotRun) = lists_of c.args.columns.now in
    c.in_ok-build_run_parts.ensures
    ∙ ap (λ (p : PlainBatch). with_arrays p (built_columns cs rs)) c.empty_batch-batch.ensures
    ∙ ap (λ (ts : List Typed). batch_of ts) (rows_built cs rs rows have)
