use Rattle.std.proofs.Common.{◌≡◌, true, drop}
use Rattle.arrow_schema.specs.View.{column_of}
use Rattle.columns.specs.Array.{slots_in}
use Rattle.columns.specs.View.{view_array}
use Rattle.arrays.specs.inner.SpanLists.{any_slot_of, are_within}
use Rattle.arrays.specs.inner.VisibleSpans.{finds}
use Rattle.arrays.proofs.visible.spans.any_slot_in.Given as goal

-- the spans that are left decide
abbrev pub invariant-loop-span : goal.invariant-loop-span
invariant-loop-span l = record {
  within : are_within (slots_in (view_array l.view)) (drop l.span-index l.spans) ≡ true;
  same : any_slot_of (finds l.test) (column_of l.field) (view_array l.view) (drop l.span-index l.spans) ≡ any_slot_of (finds l.test) (column_of l.field) (view_array l.view) l.spans;
}
