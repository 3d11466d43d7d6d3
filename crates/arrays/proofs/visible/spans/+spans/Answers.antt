use Rattle.std.specs.Prelude.{◌||◌}
use Rattle.std.proofs.Common.{◌≡◌, ◌≤◌, ◌<◌, ◌+◌, ◌-◌, ℕ, Bool, true, List, [], ◌∷◌, ◌++◌, drop, refl, rules, arith, ap, sym, ◌∙◌}
use Rattle.arrow_schema.specs.declared.types.Field.{the_lemmas as field_lemmas}
use Rattle.arrow_schema.specs.Column.{Column, Columns, Kind, lists, large_lists}
use Rattle.arrow_schema.specs.View.{column_of, kind_of}
use Rattle.columns.specs.Array.{Array, Arrays, slots_in, children_in}
use Rattle.columns.specs.Offsets.{width_of}
use Rattle.columns.specs.View.{view_array, placed_arrays, fields_of}
use Rattle.columns.specs.Visible.{Slot}
use Rattle.arrays.specs.declared.visible.span_list.SlotSpan.{SlotSpan}
use Rattle.arrays.specs.inner.SpanLists.{any_visible_of, any_below_of, any_below_runs, any_part_of, are_runs, are_within}
use Rattle.arrays.specs.inner.VisibleSpans.{any_below, finds}
use Rattle.facts.specs.laws.Lists.{drop-item}
use Rattle.arrays.proofs.SpanWeights.{sound_next}
use Rattle.arrays.proofs.VisibleSlots.{sound_slots}
use Rattle.arrays.proofs.VisibleSpans.{nested_kind, sound_kind}
use Rattle.arrays.proofs.SpanLists.{own_found_of, own_not_found_of, nothing_below_of, none_below_of, next_within, span_step, last_step, run_step, no_run_step, run_parts, null_kept, valid_span, run_kept, runs_kept, is_run_of, items_within, items_of, fixed_items_within, fixed_items_of, fields_of_runs, runs_fit, no_row_fits, part_next, long_next}
use Rattle.arrays.proofs.visible.spans.+spans.Goals as goal

pub any_visible-returns-then-any_slot_of : goal.any_visible-returns-then-any_slot_of
any_visible-returns-then-any_slot_of t c =
    sym (own_found_of (finds c.args.test) (column_of c.args.field.now) (view_array c.args.view) c.args.spans.now (sym c.if-any_slot_of.ensures))

pub any_visible-returns-then-not-has_below : goal.any_visible-returns-then-not-has_below
any_visible-returns-then-not-has_below t c =
    sym (own_not_found_of (finds c.args.test) (column_of c.args.field.now) (view_array c.args.view) c.args.spans.now (sym c.if-any_slot_of.ensures)
    ∙ nothing_below_of (finds c.args.test) (column_of c.args.field.now) (view_array c.args.view) c.args.spans.now (sym c.if-not-has_below.ensures))

pub any_visible-returns-then-not-may_find_below : goal.any_visible-returns-then-not-may_find_below
any_visible-returns-then-not-may_find_below t c =
    sym (own_not_found_of (finds c.args.test) (column_of c.args.field.now) (view_array c.args.view) c.args.spans.now (sym c.if-any_slot_of.ensures)
    ∙ none_below_of c.args.test c.args.field.now (view_array c.args.view) c.args.spans.now (sym c.if-not-may_find_below.ensures))

pub any_visible-returns : goal.any_visible-returns
any_visible-returns t c =
    c.any_below.ensures
    ∙ sym (own_not_found_of (finds c.args.test) (column_of c.args.field.now) (view_array c.args.view) c.args.spans.now (sym c.if-any_slot_of.ensures))

pub any_below-loop-span-init : goal.any_below-loop-span-init
any_below-loop-span-init t c =
    let f : Slot → Bool = finds c.args.test in
    let col : Column = column_of c.args.field.now in
    let a : Array = view_array c.args.view in
    let none = c.no_spans-runs.ensures in
    record {
      within = c.requires.within;
      runs = ap (are_runs (slots_in a)) none;
      same = ap (λ (xs : List SlotSpan). any_below_runs f (kind_of c.args.field.now.data_type) a xs || any_below_of f col a c.args.spans.now) none;
    }

pub any_below-any_in_span-requires : goal.any_below-any_in_span-requires
any_below-any_in_span-requires t c =
    let span = next_within (slots_in (view_array c.args.view)) c.args.spans.now c.loop-span.span-index c.loop-span-test.true c.loop-span.invariant.within in
    (search (rules, field_lemmas), (c.requires.none, (c.requires.nested, (c.requires.sound, (span.0, c.loop-span.invariant.runs)))))

pub any_below-returns-then-any_in_span : goal.any_below-returns-then-any_in_span
any_below-returns-then-any_in_span t c =
    span_step (finds c.args.test) (column_of c.args.field.now) (view_array c.args.view) c.args.spans.now c.loop-span.span-index _ true _ c.loop-span-test.true c.if-any_in_span.ensures.found c.loop-span.invariant.same

pub any_below-loop-span-preserved : goal.any_below-loop-span-preserved
any_below-loop-span-preserved t c =
    let span = next_within (slots_in (view_array c.args.view)) c.args.spans.now c.loop-span.span-index c.loop-span-test.true c.loop-span.invariant.within in
    record {
      within = span.1;
      runs = c.if-any_in_span.ensures.runs;
      same = span_step (finds c.args.test) (column_of c.args.field.now) (view_array c.args.view) c.args.spans.now c.loop-span.span-index _ _ _ c.loop-span-test.true c.if-any_in_span.ensures.found c.loop-span.invariant.same;
    }

pub any_below-any_valid_below-requires : goal.any_below-any_valid_below-requires
any_below-any_valid_below-requires t c =
    let a : Array = view_array c.args.view in (
      search (rules, field_lemmas),
      (
        c.requires.none,
        (
          nested_kind c.args.field.now c.requires.nested,
          (
            sound_kind c.args.field.now a c.requires.nested c.requires.sound,
            (c.as_slice.ensures.fits, ap (are_runs (slots_in a)) c.as_slice.ensures.value ∙ c.loop-span.invariant.runs),
          ),
        ),
      ),
    )

pub any_below-returns : goal.any_below-returns
any_below-returns t c =
    let f : Slot → Bool = finds c.args.test in
    let a : Array = view_array c.args.view in
    c.any_valid_below.ensures ∙ ap (any_below_runs f (kind_of c.args.field.now.data_type) a) c.as_slice.ensures.value
    ∙ last_step f (column_of c.args.field.now) a c.args.spans.now c.loop-span.span-index _ _ c.loop-span-test.false c.loop-span.invariant.same

pub any_in_span-runs-init : goal.any_in_span-runs-init
any_in_span-runs-init t c =
    let f : Slot → Bool = finds c.args.test in
    let a : Array = view_array c.args.view in
    let all : c.args.span.from + c.args.span.count - c.args.span.from ≡ c.args.span.count = omega arith in
    record {
      order = omega arith;
      runs = c.requires.runs;
      same = ap (λ (n : ℕ). any_below_runs f (kind_of c.args.field.now.data_type) a c.args.runs.now.items || any_below f (column_of c.args.field.now) a c.args.span.from n) all;
    }

pub any_in_span-run_to-end-requires-clause-long : goal.any_in_span-run_to-end-requires-clause-long
any_in_span-run_to-end-requires-clause-long t c = sound_slots (column_of c.args.field.now) (view_array c.args.view) c.requires.sound

pub any_in_span-any_with_run-requires : goal.any_in_span-any_with_run-requires
any_in_span-any_with_run-requires t c =
    let a : Array = view_array c.args.view in
    let low : c.runs.at < c.run_to-end.result = c.run_to-end.ensures.begins in
    let high : c.run_to-end.result ≤ c.args.span.from + c.args.span.count = c.run_to-end.ensures.ends in
    let run : SlotSpan = record { from = c.runs.at; count = c.run_to-end.result - c.runs.at } in (
      search (rules, field_lemmas),
      (
        c.requires.none,
        (
          c.requires.nested,
          (
            c.requires.sound,
            (is_run_of (slots_in a) run (omega (arith, low)) (omega (arith, low, high, c.requires.within)), (λ i from below. c.run_to-end.ensures.alike i from (omega (arith, low, below)), c.runs.invariant.runs)),
          ),
        ),
      ),
    )

pub any_in_span-returns-then-any_with_run : goal.any_in_span-returns-then-any_with_run
any_in_span-returns-then-any_with_run t c = record {
  found = run_step (finds c.args.test) (column_of c.args.field.now) (view_array c.args.view) c.runs.at c.run_to-end.result (c.args.span.from + c.args.span.count) _ true _
      c.run_to-end.ensures.begins c.run_to-end.ensures.ends c.if-any_with_run.ensures.found c.runs.invariant.same;
  runs = c.if-any_with_run.ensures.runs;
}

pub any_in_span-runs-preserved : goal.any_in_span-runs-preserved
any_in_span-runs-preserved t c = record {
  order = c.run_to-end.ensures.ends;
  runs = c.if-any_with_run.ensures.runs;
  same = run_step (finds c.args.test) (column_of c.args.field.now) (view_array c.args.view) c.runs.at c.run_to-end.result (c.args.span.from + c.args.span.count) _ _ _
      c.run_to-end.ensures.begins c.run_to-end.ensures.ends c.if-any_with_run.ensures.found c.runs.invariant.same;
}

pub any_in_span-returns : goal.any_in_span-returns
any_in_span-returns t c = record {
  found = no_run_step (finds c.args.test) (column_of c.args.field.now) (view_array c.args.view) c.runs.at (c.args.span.from + c.args.span.count) _ _ (omega arith) c.runs.invariant.same;
  runs = c.runs.invariant.runs;
}

pub any_with_run-is_valid-requires-clause-long : goal.any_with_run-is_valid-requires-clause-long
any_with_run-is_valid-requires-clause-long t c = sound_slots (column_of c.args.field.now) (view_array c.args.view) c.requires.sound

pub any_with_run-is_valid-requires-clause-within : goal.any_with_run-is_valid-requires-clause-within
any_with_run-is_valid-requires-clause-within t c = let parts = run_parts (slots_in (view_array c.args.view)) c.args.run c.requires.run in omega (arith, parts.0, parts.1)

pub any_with_run-returns-then-not-is_valid : goal.any_with_run-returns-then-not-is_valid
any_with_run-returns-then-not-is_valid t c = record {
  found = null_kept (finds c.args.test) (column_of c.args.field.now) (view_array c.args.view) c.args.run _ c.requires.alike (sym c.is_valid.ensures ∙ c.if-not-is_valid.true);
  runs = c.requires.runs;
}

pub any_with_run-returns-then-not-is_full : goal.any_with_run-returns-then-not-is_full
any_with_run-returns-then-not-is_full t c =
    let f : Slot → Bool = finds c.args.test in
    let a : Array = view_array c.args.view in
    let kind : Kind = kind_of c.args.field.now.data_type in
    let old : List SlotSpan = c.args.runs.now.items in
    let valid = valid_span f c.args.field.now a c.args.run c.requires.nested c.requires.alike (sym c.is_valid.ensures ∙ c.if-not-is_valid.false) in
    record {
      found = run_kept f kind a old c.push.new.self.items c.args.run c.push.ensures.items ∙ ap (λ (b : Bool). any_below_runs f kind a old || b) valid;
      runs = runs_kept (slots_in a) old c.push.new.self.items c.args.run c.push.ensures.items c.requires.runs c.requires.run;
    }

pub any_with_run-any_valid_below-found-requires : goal.any_with_run-any_valid_below-found-requires
any_with_run-any_valid_below-found-requires t c =
    let a : Array = view_array c.args.view in (
      search (rules, field_lemmas),
      (
        c.requires.none,
        (
          nested_kind c.args.field.now c.requires.nested,
          (
            sound_kind c.args.field.now a c.requires.nested c.requires.sound,
            (c.as_slice.ensures.fits, ap (are_runs (slots_in a)) c.as_slice.ensures.value ∙ c.requires.runs),
          ),
        ),
      ),
    )

pub any_with_run-returns : goal.any_with_run-returns
any_with_run-returns t c =
    let f : Slot → Bool = finds c.args.test in
    let a : Array = view_array c.args.view in
    let kind : Kind = kind_of c.args.field.now.data_type in
    let new : List SlotSpan = c.push-2.new.self.items in
    let pushed : new ≡ [] ++ c.args.run ∷ [] = c.push-2.ensures.items ∙ ap (λ (xs : List SlotSpan). xs ++ c.args.run ∷ []) c.clear.ensures in
    let found = c.any_valid_below-found.ensures ∙ ap (any_below_runs f kind a) c.as_slice.ensures.value in
    let valid = valid_span f c.args.field.now a c.args.run c.requires.nested c.requires.alike (sym c.is_valid.ensures ∙ c.if-not-is_valid.false) in
    let kept : any_below_runs f kind a new ≡ any_below f (column_of c.args.field.now) a c.args.run.from c.args.run.count = run_kept f kind a [] new c.args.run pushed ∙ valid in
    record {
      found = (λ j. found j || kept j);
      runs = runs_kept (slots_in a) [] new c.args.run pushed refl c.requires.run;
    }

pub any_item-any_visible-requires : goal.any_item-any_visible-requires
any_item-any_visible-requires t c =
    let a : Array = view_array c.args.view in
    let items = c.as_slice.ensures.value ∙ c.item_spans-items.ensures in (
      search (rules, field_lemmas),
      (
        c.requires.none,
        (
          rw c.items_or.ensures c.requires.sound,
          ap (are_within (slots_in (view_array c.items_or.result))) items ∙ items_within (width_of c.args.width) a (view_array c.items_or.result) c.args.runs.now c.items_or.ensures c.requires.ordered c.requires.runs,
        ),
      ),
    )

pub any_item-returns : goal.any_item-returns
any_item-returns t c =
    let both = items_of (finds c.args.test) (width_of c.args.width) (column_of c.args.item.now) (view_array c.args.view) (view_array c.items_or.result) c.args.runs.now _ _ c.items_or.ensures
    (c.as_slice.ensures.value ∙ c.item_spans-items.ensures) c.any_visible.ensures c.requires.ordered c.requires.runs in
    record { lists = both.0; large_lists = both.1 }

pub any_fixed_item-any_visible-requires : goal.any_fixed_item-any_visible-requires
any_fixed_item-any_visible-requires t c =
    let items = c.as_slice.ensures.value ∙ c.fixed_item_spans-items.ensures in (
      search (rules, field_lemmas),
      (
        c.requires.none,
        (
          rw c.items_or.ensures c.requires.sound,
          ap (are_within (slots_in (view_array c.items_or.result))) items
              ∙ fixed_items_within c.args.size (view_array c.args.view) (view_array c.items_or.result) c.args.runs.now c.items_or.ensures c.requires.long c.requires.runs,
        ),
      ),
    )

pub any_fixed_item-returns : goal.any_fixed_item-returns
any_fixed_item-returns t c =
    c.any_visible.ensures
    ∙ ap (any_visible_of (finds c.args.test) (column_of c.args.item.now) (view_array c.items_or.result)) (c.as_slice.ensures.value ∙ c.fixed_item_spans-items.ensures)
    ∙ fixed_items_of (finds c.args.test) c.args.size (column_of c.args.item.now) (view_array c.args.view) (view_array c.items_or.result) c.args.runs.now c.items_or.ensures

pub any_field-any_part-requires : goal.any_field-any_part-requires
any_field-any_part-requires t c =
    let cs : Columns = fields_of c.args.fields.now in
    let arrays : Arrays = children_in (view_array c.args.view) in
    let slots : ℕ = slots_in (view_array c.args.view) in (
      search (rules, field_lemmas),
      (c.requires.none, (rw c.children.ensures (no_row_fits cs arrays slots c.requires.sound), rw c.children.ensures (runs_fit cs arrays slots c.args.runs.now c.requires.sound c.requires.runs))),
    )

pub any_field-returns : goal.any_field-returns
any_field-returns t c =
    c.any_part.ensures
    ∙ fields_of_runs (finds c.args.test) (fields_of c.args.fields.now) (view_array c.args.view) (placed_arrays c.args.view.bytes.now c.args.view.dictionaries.now c.children.result.now) c.args.runs.now
    c.children.ensures

pub any_part-any_visible-requires : goal.any_part-any_visible-requires
any_part-any_visible-requires t c =
    let next = drop-item c.args.fields.now c.loop-i.i c.index-fields-i.result c.loop-i-test.true c.index-fields-i.is in
    let first = c.array_or.ensures c.args.bytes.now c.args.dictionaries.now in
    let part = sound_next c.args.bytes.now c.args.dictionaries.now c.args.fields.now c.args.arrays.now c.loop-i.i c.index-fields-i.result _ 0 next first c.loop-i.invariant.sound in
    let long = long_next c.args.bytes.now c.args.dictionaries.now c.args.fields.now c.args.arrays.now c.loop-i.i c.index-fields-i.result _ c.args.spans.now next first c.loop-i.invariant.long in (
      search (rules, field_lemmas),
      (c.requires.none, (part.1, long.0)),
    )

pub any_part-returns-then-any_visible : goal.any_part-returns-then-any_visible
any_part-returns-then-any_visible t c =
    let rest : Bool = any_part_of (finds c.args.test) (fields_of (drop (c.loop-i.i + 1) c.args.fields.now)) (placed_arrays c.args.bytes.now c.args.dictionaries.now (drop (c.loop-i.i + 1) c.args.arrays.now)) c.args.spans.now in
    ap (λ (b : Bool). b || rest) c.if-any_visible.ensures
    ∙ sym (part_next (finds c.args.test) c.args.bytes.now c.args.dictionaries.now c.args.fields.now c.args.arrays.now c.loop-i.i c.args.spans.now c.index-fields-i.result _
    c.loop-i-test.true c.index-fields-i.is (c.array_or.ensures c.args.bytes.now c.args.dictionaries.now))
    ∙ c.loop-i.invariant.same

pub any_part-loop-i-preserved : goal.any_part-loop-i-preserved
any_part-loop-i-preserved t c =
    let next = drop-item c.args.fields.now c.loop-i.i c.index-fields-i.result c.loop-i-test.true c.index-fields-i.is in
    let first = c.array_or.ensures c.args.bytes.now c.args.dictionaries.now in
    let part = sound_next c.args.bytes.now c.args.dictionaries.now c.args.fields.now c.args.arrays.now c.loop-i.i c.index-fields-i.result _ 0 next first c.loop-i.invariant.sound in
    let long = long_next c.args.bytes.now c.args.dictionaries.now c.args.fields.now c.args.arrays.now c.loop-i.i c.index-fields-i.result _ c.args.spans.now next first c.loop-i.invariant.long in
    let rest : Bool = any_part_of (finds c.args.test) (fields_of (drop (c.loop-i.i + 1) c.args.fields.now)) (placed_arrays c.args.bytes.now c.args.dictionaries.now (drop (c.loop-i.i + 1) c.args.arrays.now)) c.args.spans.now in
    record {
      sound = part.2;
      long = long.1;
      same = ap (λ (b : Bool). b || rest) c.if-any_visible.ensures
          ∙ sym (part_next (finds c.args.test) c.args.bytes.now c.args.dictionaries.now c.args.fields.now c.args.arrays.now c.loop-i.i c.args.spans.now c.index-fields-i.result _
          c.loop-i-test.true c.index-fields-i.is first) ∙ c.loop-i.invariant.same;
    }
