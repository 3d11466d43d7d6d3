use Rattle.std.proofs.Common.{◌≡◌, ◌+◌, ◌-◌, ℕ, true, false, arith, ap, sym, ◌∙◌}
use Rattle.std.specs.List.{list_any, range_with_len}
use Rattle.arrays.proofs.Ranges.{any-here, any-later, any-end}
use Rattle.arrays.specs.inner.VisibleSpans.{has_no_value}
use Rattle.arrays.proofs.visible.nulls.any_null_found.Goals as goal

pub loop-i-init : goal.loop-i-init
loop-i-init c =
    let all : c.args.from + c.args.count - c.args.from ≡ c.args.count = omega arith in
    ap (λ (n : ℕ). list_any (has_no_value c.args.spec c.args.data_type.now c.args.view) (range_with_len c.args.from n)) all

pub returns-then-is_entry_null : goal.returns-then-is_entry_null
returns-then-is_entry_null c =
    let here : has_no_value c.args.spec c.args.data_type.now c.args.view c.loop-i.i ≡ true =
    (λ j. has_no_value (sym c.new-slots.ensures.spec j) c.args.data_type.now (sym c.new-slots.ensures.view j) c.loop-i.i) ∙ sym c.is_entry_null.ensures ∙ c.if-is_entry_null.true in
    sym (any-here (has_no_value c.args.spec c.args.data_type.now c.args.view) c.loop-i.i (c.args.from + c.args.count) (omega arith) here) ∙ c.loop-i.invariant

pub loop-i-preserved : goal.loop-i-preserved
loop-i-preserved c =
    let here : has_no_value c.args.spec c.args.data_type.now c.args.view c.loop-i.i ≡ false =
    (λ j. has_no_value (sym c.new-slots.ensures.spec j) c.args.data_type.now (sym c.new-slots.ensures.view j) c.loop-i.i) ∙ sym c.is_entry_null.ensures ∙ c.if-is_entry_null.false in
    any-later (has_no_value c.args.spec c.args.data_type.now c.args.view) c.loop-i.i (c.args.from + c.args.count) (omega arith) here ∙ c.loop-i.invariant

pub returns : goal.returns
returns c = sym (any-end (has_no_value c.args.spec c.args.data_type.now c.args.view) c.loop-i.i (c.args.from + c.args.count) (omega arith)) ∙ c.loop-i.invariant
