use Rattle.std.specs.Prelude.{◌||◌}
use Rattle.std.proofs.Common.{◌+◌, Bool, drop, ap, sym, ◌∙◌}
use Rattle.std.proofs.lemmas.List.{drop_all}
use Rattle.arrow_schema.specs.View.{column_of}
use Rattle.columns.specs.Array.{slots_in}
use Rattle.columns.specs.View.{view_array}
use Rattle.arrays.specs.declared.visible.span_list.SlotSpan.{SlotSpan}
use Rattle.arrays.specs.inner.SpanLists.{any_slot_of}
use Rattle.arrays.specs.inner.VisibleSpans.{any_slot, finds}
use Rattle.arrays.proofs.SpanLists.{any_next, next_within}
use Rattle.arrays.proofs.visible.spans.any_slot_in.Goals as goal

pub any_slot-requires-clause-within : goal.any_slot-requires-clause-within
any_slot-requires-clause-within c =
    (next_within (slots_in (view_array c.args.view)) c.args.spans.now c.loop-span.span-index c.loop-span-test.true c.loop-span.invariant.within).0

pub returns-then-any_slot : goal.returns-then-any_slot
returns-then-any_slot c =
    let rest : Bool = any_slot_of (finds c.args.test) (column_of c.args.field.now) (view_array c.args.view) (drop (c.loop-span.span-index + 1) c.args.spans.now) in
    ap (λ (b : Bool). b || rest) c.if-any_slot.ensures
    ∙ sym (any_next (λ (s : SlotSpan). any_slot (finds c.args.test) (column_of c.args.field.now) (view_array c.args.view) s.from s.count) c.args.spans.now c.loop-span.span-index
    c.loop-span-test.true) ∙ c.loop-span.invariant.same

pub loop-span-preserved : goal.loop-span-preserved
loop-span-preserved c =
    let rest : Bool = any_slot_of (finds c.args.test) (column_of c.args.field.now) (view_array c.args.view) (drop (c.loop-span.span-index + 1) c.args.spans.now) in
    record {
      within = (next_within (slots_in (view_array c.args.view)) c.args.spans.now c.loop-span.span-index c.loop-span-test.true c.loop-span.invariant.within).1;
      same = ap (λ (b : Bool). b || rest) c.if-any_slot.ensures
          ∙ sym (any_next (λ (s : SlotSpan). any_slot (finds c.args.test) (column_of c.args.field.now) (view_array c.args.view) s.from s.count) c.args.spans.now c.loop-span.span-index
          c.loop-span-test.true) ∙ c.loop-span.invariant.same;
    }

pub returns : goal.returns
returns c =
    sym (ap (any_slot_of (finds c.args.test) (column_of c.args.field.now) (view_array c.args.view)) (drop_all c.loop-span.span-index c.args.spans.now c.loop-span-test.false))
    ∙ c.loop-span.invariant.same
