use Rattle.std.proofs.Common.{◌≡◌, ◌++◌, List, map, length, take, sym, ap, ◌∙◌, arith, rules}
use Rattle.std.specs.List.{flat_map}
use Rattle.std.proofs.Math.Seq.{take-nil}
use Rattle.std.proofs.lemmas.List.{length-take}
use Rattle.facts.specs.laws.Lists.{flat_map-item}
use Rattle.arrow_schema.specs.View.{column_of}
use Rattle.cells.specs.Cell.{Cell}
use Rattle.columns.specs.View.{fields_of}
use Rattle.query.specs.Choice.{rows_set}
use Rattle.query.specs.ObjectLine.{lines_text}
use Rattle.query.specs.laws.Lines.{none_printed}
use Rattle.query.specs.laws.Tests.{all_here}
use Rattle.selection.specs.inner.Picked.{picked_rows, is_picked_readable}
use Rattle.selection.proofs.Batches.{rows_counted, sum_more}
use Rattle.selection.proofs.PrintedRows.{batch_printed}
use Rattle.selection.proofs.printing.push_batches.Goals as goal

pub loop-batch-init : goal.loop-batch-init
loop-batch-init c = record { at = search rules; printed = none_printed c.args.form (map column_of c.args.fields.now) c.args.most _ c.args.text.now.items (sym (take-nil c.args.most)) }

pub push_set_lines-requires-clause-readable : goal.push_set_lines-requires-clause-readable
push_set_lines-requires-clause-readable c =
    let cs = fields_of c.args.fields.now in
    c.arrays_of.ensures.readable cs (all_here (is_picked_readable cs) c.args.batches.now c.loop-batch.batch-index c.batch-item.result c.requires.readable c.loop-batch-test.true c.batch-item.is)

pub overflow_sub-left : goal.overflow_sub-left
overflow_sub-left c = omega (arith, c.in_ok-left.ensures.count, length-take {A = List Cell})

pub loop-batch-preserved : goal.loop-batch-preserved
loop-batch-preserved c =
    let bs = c.args.batches.now in
    let i = c.loop-batch.batch-index in
    let b = c.batch-item.result in
    let is = c.loop-batch.invariant in
    let cs = fields_of c.args.fields.now in
    let front = flat_map (picked_rows cs) (take i bs) in
    let at : c.loop-batch.start ≡ length front = is.at ∙ sym (rows_counted cs (take i bs)) in
    let lines = ap (λ (rows : List (List Cell)). c.loop-batch.text.items ++ lines_text c.args.form (map column_of c.args.fields.now) (take c.loop-batch.left (rows_set c.args.mask.now c.loop-batch.start rows))) (c.arrays_of.ensures.rows cs) in
    let count = ap (λ (rows : List (List Cell)). length (take c.loop-batch.left (rows_set c.args.mask.now c.loop-batch.start rows))) (c.arrays_of.ensures.rows cs) in
    record {
      at = omega (arith, is.at, sum_more bs i b c.loop-batch-test.true c.batch-item.is);
      printed = batch_printed c.args.form (map column_of c.args.fields.now) c.args.most c.loop-batch.left _ c.args.mask.now c.loop-batch.start front (picked_rows cs b) _ c.args.text.now.items _ _
          at (flat_map-item (picked_rows cs) bs i b c.loop-batch-test.true c.batch-item.is) is.printed (c.in_ok-left.ensures.lines ∙ lines) (c.in_ok-left.ensures.count ∙ count);
    }
