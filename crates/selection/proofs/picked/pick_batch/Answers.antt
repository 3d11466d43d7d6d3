use Rattle.std.proofs.Common.{refl, length, ◌∙◌}
use Rattle.columns.specs.View.{placed_arrays}
use Rattle.query.specs.Selection.{pick}
use Rattle.selection.specs.declared.picked.PickedBatch.{PickedBatch}
use Rattle.selection.specs.inner.Picked.{first_arrays}
use Rattle.selection.proofs.Batches.{batch_picked, batch_sound}
use Rattle.selection.proofs.picked.pick_batch.Goals as goal

pub returns-clause-rows : goal.returns-clause-rows
returns-clause-rows c =
    let fields = c.args.fields.now in
    let places = c.args.places.now in
    let own : PickedBatch = record { arrays = c.in_ok-pick_arrays.field-0; bytes = c.deref-2.result; dictionaries = c.deref-3.result; rows = c.args.batch.now.rows } in
    batch_picked fields places c.args.part.now c.args.batch.now own c.deref-2.ensures.value c.deref-3.ensures.value
    (λ x all. c.in_ok-pick_arrays.ensures x all ∙ (λ k. pick places (first_arrays (length fields) (placed_arrays x all (c.deref.ensures.value k))))) refl

pub returns-clause-sound : goal.returns-clause-sound
returns-clause-sound c =
    let fields = c.args.fields.now in
    let places = c.args.places.now in
    let own : PickedBatch = record { arrays = c.in_ok-pick_arrays.field-0; bytes = c.deref-2.result; dictionaries = c.deref-3.result; rows = c.args.batch.now.rows } in
    batch_sound fields places c.args.part.now c.args.batch.now own c.deref-2.ensures.value c.deref-3.ensures.value
    (λ x all. c.in_ok-pick_arrays.ensures x all ∙ (λ k. pick places (first_arrays (length fields) (placed_arrays x all (c.deref.ensures.value k))))) refl
