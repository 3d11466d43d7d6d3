use Rattle.std.specs.List.{flat_map}
use Rattle.std.specs.Prelude.{sum_by}
use Rattle.std.proofs.Common.{◌≡◌, map, take}
use Rattle.arrow_schema.specs.View.{column_of}
use Rattle.columns.specs.View.{fields_of}
use Rattle.query.specs.Choice.{rows_set}
use Rattle.query.specs.laws.Lines.{ArePrinted}
use Rattle.selection.specs.inner.Picked.{picked_rows}
use Rattle.selection.proofs.printing.push_batches.Given as goal

abbrev pub invariant-loop-batch : goal.invariant-loop-batch
invariant-loop-batch l = record {
  at : l.start ≡ sum_by (λ b. b.rows) (take l.batch-index l.batches);
  printed : ArePrinted l.form (map column_of l.fields) l.most (take l.most (rows_set l.mask 0 (flat_map (picked_rows (fields_of l.fields)) (take l.batch-index l.batches)))) l.fn.text.items l.text.items l.left;
}
