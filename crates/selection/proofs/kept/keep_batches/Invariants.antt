use Rattle.std.specs.List.{flat_map, list_all}
use Rattle.std.proofs.Common.{◌≡◌, true, take}
use Rattle.std.specs.Prelude.{sum_by}
use Rattle.arrow_schema.specs.Column.{Columns}
use Rattle.query.specs.Choice.{rows_set}
use Rattle.selection.specs.inner.Kept.{AreKept}
use Rattle.selection.specs.inner.Picked.{picked_rows, is_picked_sound}
use Rattle.selection.proofs.kept.keep_batches.Given as goal

abbrev pub invariant-loop-batch : goal.invariant-loop-batch
invariant-loop-batch l = record {
  at : l.start ≡ sum_by (λ b. b.rows) (take l.batch-index l.batches);
  kept : (columns : Columns) → list_all (is_picked_sound columns) (take l.batch-index l.batches) ≡ true
      → AreKept columns (take l.most (rows_set l.mask 0 (flat_map (picked_rows columns) (take l.batch-index l.batches)))) l.kept;
}
