use Rattle.std.specs.List.{flat_map, list_all}
use Rattle.std.proofs.Common.{◌∙◌, ◌++◌, List, map, take, sym, ap, append_assoc}
use Rattle.std.proofs.lemmas.List.{map-append}
use Rattle.facts.specs.laws.Lists.{flat_map-push, flat_map-item, all_pushed, all_with_item}
use Rattle.arrow_schema.specs.Column.{Columns}
use Rattle.cells.specs.Cell.{Cell}
use Rattle.columns.specs.View.{fields_of}
use Rattle.query.specs.Selection.{pick}
use Rattle.selection.specs.declared.picked.PickedBatch.{PickedBatch}
use Rattle.selection.specs.inner.Picked.{picked_columns, picked_rows, is_picked_sound}
use Rattle.values.specs.Parts.{batch_rows, is_batch_sound}
use Rattle.values.specs.declared.table_part.Batch.{Batch}
use Rattle.selection.proofs.picked.pick_part.Goals as goal

pub loop-batch-preserved : goal.loop-batch-preserved
loop-batch-preserved c =
    let fields : Columns = fields_of c.args.fields.now in
    let columns : Columns = picked_columns c.args.fields.now c.args.places.now in
    let rows : Batch → List (List Cell) = batch_rows fields c.args.part.now in
    let before : List (List Cell) = flat_map (picked_rows columns) c.args.picked.now.items in
    let batches : List Batch = c.args.part.now.batches.items in
    let i = c.loop-batch.batch-index in
    let batch : Batch = c.batch-item.result in
    let old : List PickedBatch = c.loop-batch.picked.items in
    let own : PickedBatch = c.in_ok-pick_batch.field-0 in
    let lt = rw c.deref-batch-items.ensures.value at c.loop-batch-test.true in
    let is = rw c.deref-batch-items.ensures.value at c.batch-item.is in
    let pushed = c.in_ok-push.ensures.items in
    let more = ap (map (pick c.args.places.now)) (flat_map-item rows batches i batch lt is) ∙ map-append (pick c.args.places.now) (flat_map rows (take i batches)) (rows batch) in
    record {
      rows = ap (flat_map (picked_rows columns)) pushed ∙ flat_map-push (picked_rows columns) old own
          ∙ (λ j. c.loop-batch.invariant.rows j ++ c.in_ok-pick_batch.ensures.rows j)
          ∙ append_assoc before (map (pick c.args.places.now) (flat_map rows (take i batches))) (map (pick c.args.places.now) (rows batch))
          ∙ ap (λ (xs : List (List Cell)). before ++ xs) (sym more);
      sound = λ sound all.
          let both = all_with_item (is_batch_sound fields c.args.part.now) batches i batch lt is all in
          ap (list_all (is_picked_sound columns)) pushed ∙ all_pushed (is_picked_sound columns) old own (c.loop-batch.invariant.sound sound both.0) (c.in_ok-pick_batch.ensures.sound both.1);
    }
