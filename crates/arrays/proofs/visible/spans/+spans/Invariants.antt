use Rattle.std.specs.Prelude.{◌||◌}
use Rattle.std.proofs.Common.{◌≡◌, ◌≤◌, ◌-◌, true, drop}
use Rattle.arrow_schema.specs.View.{column_of, kind_of}
use Rattle.columns.specs.Array.{slots_in}
use Rattle.columns.specs.Sound.{are_sound}
use Rattle.columns.specs.View.{view_array, placed_arrays, fields_of}
use Rattle.arrays.specs.inner.SpanLists.{any_below_of, any_below_runs, any_part_of, are_within, are_runs, are_long_for}
use Rattle.arrays.specs.inner.VisibleSpans.{any_below, finds}
use Rattle.arrays.proofs.visible.spans.+spans.Given as goal

-- what is below the runs that are kept, and below the spans that are left
abbrev pub invariant-any_below-loop-span : goal.invariant-any_below-loop-span
invariant-any_below-loop-span l = record {
  within : are_within (slots_in (view_array l.view)) (drop l.span-index l.spans) ≡ true;
  runs : are_runs (slots_in (view_array l.view)) l.runs.items ≡ true;
  same : (any_below_runs (finds l.test) (kind_of l.field.data_type) (view_array l.view) l.runs.items
      || any_below_of (finds l.test) (column_of l.field) (view_array l.view) (drop l.span-index l.spans))
      ≡ any_below_of (finds l.test) (column_of l.field) (view_array l.view) l.spans;
}

-- the same of the slots that are left
abbrev pub invariant-any_in_span-runs : goal.invariant-any_in_span-runs
invariant-any_in_span-runs l = record {
  order : l.at ≤ l.to;
  runs : are_runs (slots_in (view_array l.view)) l.runs.items ≡ true;
  same : (any_below_runs (finds l.test) (kind_of l.field.data_type) (view_array l.view) l.runs.items || any_below (finds l.test) (column_of l.field) (view_array l.view) l.at (l.to - l.at))
      ≡ (any_below_runs (finds l.test) (kind_of l.field.data_type) (view_array l.view) l.fn.runs.items
      || any_below (finds l.test) (column_of l.field) (view_array l.view) l.fn.span.from l.fn.span.count);
}

abbrev pub decreases-any_in_span-runs : goal.decreases-any_in_span-runs
decreases-any_in_span-runs l = l.to - l.at

abbrev pub invariant-any_part-loop-i : goal.invariant-any_part-loop-i
invariant-any_part-loop-i l = record {
  sound : are_sound (fields_of (drop l.i l.fields)) 0 (placed_arrays l.bytes l.dictionaries (drop l.i l.arrays)) ≡ true;
  long : are_long_for (fields_of (drop l.i l.fields)) (placed_arrays l.bytes l.dictionaries (drop l.i l.arrays)) l.spans ≡ true;
  same : any_part_of (finds l.test) (fields_of (drop l.i l.fields)) (placed_arrays l.bytes l.dictionaries (drop l.i l.arrays)) l.spans
      ≡ any_part_of (finds l.test) (fields_of l.fields) (placed_arrays l.bytes l.dictionaries l.arrays) l.spans;
}
