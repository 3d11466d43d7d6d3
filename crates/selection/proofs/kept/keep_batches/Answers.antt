use Rattle.std.proofs.Common.{◌≡◌, List, sym, subst, length, take, ◌∙◌, arith}
use Rattle.std.specs.List.{flat_map}
use Rattle.facts.specs.laws.Lists.{flat_map-item, all_with_item}
use Rattle.cells.specs.Cell.{Cell}
use Rattle.query.specs.Choice.{rows_set}
use Rattle.selection.specs.inner.Kept.{Keeps}
use Rattle.selection.specs.inner.Picked.{picked_rows, is_picked_sound}
use Rattle.selection.proofs.Batches.{rows_counted, sum_more}
use Rattle.selection.proofs.Runs.{kept_batch}
use Rattle.selection.proofs.kept.keep_batches.Goals as goal

pub loop-batch-preserved : goal.loop-batch-preserved
loop-batch-preserved c =
    let bs = c.args.batches.now in
    let i = c.loop-batch.batch-index in
    let b = c.batch-item.result in
    let is = c.loop-batch.invariant in
    record {
      at = omega (arith, is.at, sum_more bs i b c.loop-batch-test.true c.batch-item.is);
      kept = λ cs all.
          let both = all_with_item (is_picked_sound cs) bs i b c.loop-batch-test.true c.batch-item.is all in
          let front = flat_map (picked_rows cs) (take i bs) in
          let at : c.loop-batch.start ≡ length front = is.at ∙ sym (rows_counted cs (take i bs)) in
          let P : List (List Cell) → Type 0 = λ rows. Keeps cs c.args.most c.loop-batch.kept c.keep_batch.new.kept (rows_set c.args.mask.now c.loop-batch.start rows) in
          let more = subst P (c.whole_run.ensures.rows cs) (c.in_ok-keep_batch.ensures cs (c.whole_run.ensures.sound cs both.1)) in
          kept_batch cs c.args.most c.args.mask.now c.loop-batch.start front (picked_rows cs b) _ c.loop-batch.kept c.keep_batch.new.kept at
          (flat_map-item (picked_rows cs) bs i b c.loop-batch-test.true c.batch-item.is) (is.kept cs both.0) more;
    }
