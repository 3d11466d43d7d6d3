use Rattle.std.proofs.Common.{arith, ap, length, refl}
use Rattle.columns.specs.Array.{slots_in, items_in}
use Rattle.columns.specs.View.{view_array}
use Rattle.arrays.specs.inner.SpanLists.{fixed_item_span}
use Rattle.arrays.proofs.SpanLists.{span_at, next_run, mapped_more, all_mapped}
use Rattle.arrays.proofs.KindWeights.{fixed_within}
use Rattle.arrays.proofs.visible.span_list.fixed_item_spans.Goals as goal

pub loop-run-init : goal.loop-run-init
loop-run-init c = record { count = ap length c.no_spans-items.ensures; runs = c.requires.runs; same = c.no_spans-items.ensures }

pub overflow_mul-from : goal.overflow_mul-from
overflow_mul-from c =
    let run = next_run (slots_in (view_array c.args.view)) c.args.runs.now c.loop-run.run-index c.loop-run-test.true c.loop-run.invariant.runs in
    let fits = fixed_within c.args.size (span_at c.args.runs.now c.loop-run.run-index).from (span_at c.args.runs.now c.loop-run.run-index).count (slots_in (view_array c.args.view)) (slots_in (items_in (view_array c.args.view))) c.requires.long run.1 in
    omega (arith, fits, c.item_slots-most.ensures)

pub overflow_mul-count : goal.overflow_mul-count
overflow_mul-count c =
    let run = next_run (slots_in (view_array c.args.view)) c.args.runs.now c.loop-run.run-index c.loop-run-test.true c.loop-run.invariant.runs in
    let fits = fixed_within c.args.size (span_at c.args.runs.now c.loop-run.run-index).from (span_at c.args.runs.now c.loop-run.run-index).count (slots_in (view_array c.args.view)) (slots_in (items_in (view_array c.args.view))) c.requires.long run.1 in
    omega (arith, fits, c.item_slots-most.ensures)

pub loop-run-preserved : goal.loop-run-preserved
loop-run-preserved c = record {
  count = omega (arith, c.push.ensures.len, c.loop-run.invariant.count);
  runs = (next_run (slots_in (view_array c.args.view)) c.args.runs.now c.loop-run.run-index c.loop-run-test.true c.loop-run.invariant.runs).2;
  same = mapped_more (fixed_item_span c.args.size) c.args.runs.now c.loop-run.run-index _ _ _ c.loop-run-test.true c.push.ensures.items refl c.loop-run.invariant.same;
}

pub returns : goal.returns
returns c = all_mapped (fixed_item_span c.args.size) c.args.runs.now c.loop-run.run-index _ c.loop-run-test.false c.loop-run.invariant.same
