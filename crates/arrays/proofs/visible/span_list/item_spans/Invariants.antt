use Rattle.std.proofs.Common.{◌≡◌, true, length, map, take, drop}
use Rattle.columns.specs.Array.{slots_in}
use Rattle.columns.specs.Offsets.{width_of}
use Rattle.columns.specs.View.{view_array}
use Rattle.arrays.specs.inner.SpanLists.{are_runs, item_span}
use Rattle.arrays.proofs.visible.span_list.item_spans.Given as goal

abbrev pub invariant-loop-run : goal.invariant-loop-run
invariant-loop-run l = record {
  count : length l.items.items ≡ l.run-index;
  runs : are_runs (slots_in (view_array l.view)) (drop l.run-index l.runs) ≡ true;
  same : l.items.items ≡ map (item_span (width_of l.width) (view_array l.view)) (take l.run-index l.runs);
}
