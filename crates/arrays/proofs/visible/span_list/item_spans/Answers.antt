use Rattle.std.proofs.Common.{arith, ap, length}
use Rattle.columns.specs.Array.{slots_in}
use Rattle.columns.specs.Offsets.{width_of}
use Rattle.columns.specs.View.{view_array}
use Rattle.arrays.specs.inner.SpanLists.{item_span}
use Rattle.arrays.proofs.SpanLists.{next_run, mapped_more, all_mapped}
use Rattle.arrays.proofs.visible.span_list.item_spans.Goals as goal

pub loop-run-init : goal.loop-run-init
loop-run-init c = record { count = ap length c.no_spans-items.ensures; runs = c.requires.runs; same = c.no_spans-items.ensures }

pub spanned-span-requires-clause-some : goal.spanned-span-requires-clause-some
spanned-span-requires-clause-some c =
    (next_run (slots_in (view_array c.args.view)) c.args.runs.now c.loop-run.run-index c.loop-run-test.true c.loop-run.invariant.runs).0

pub spanned-span-requires-clause-within : goal.spanned-span-requires-clause-within
spanned-span-requires-clause-within c =
    (next_run (slots_in (view_array c.args.view)) c.args.runs.now c.loop-run.run-index c.loop-run-test.true c.loop-run.invariant.runs).1

pub loop-run-preserved : goal.loop-run-preserved
loop-run-preserved c = record {
  count = omega (arith, c.push.ensures.len, c.loop-run.invariant.count);
  runs = (next_run (slots_in (view_array c.args.view)) c.args.runs.now c.loop-run.run-index c.loop-run-test.true c.loop-run.invariant.runs).2;
  same = mapped_more (item_span (width_of c.args.width) (view_array c.args.view)) c.args.runs.now c.loop-run.run-index _ _ _ c.loop-run-test.true c.push.ensures.items
      (λ j. record { from = c.spanned-span.ensures.start j; count = c.spanned-span.ensures.size j }) c.loop-run.invariant.same;
}

pub returns : goal.returns
returns c = all_mapped (item_span (width_of c.args.width) (view_array c.args.view)) c.args.runs.now c.loop-run.run-index _ c.loop-run-test.false c.loop-run.invariant.same
