use Rattle.std.proofs.Common.{◌≡◌, ◌+◌, ◌-◌, ℕ, true, false, arith, ap, sym, ◌∙◌}
use Rattle.std.specs.List.{list_any, range_with_len}
use Rattle.arrays.proofs.Ranges.{any-here, any-later, any-end}
use Rattle.arrays.proofs.VisibleSlots.{bad}
use Rattle.arrays.proofs.visible.texts.any_other_bytes.Goals as goal

pub loop-i-init : goal.loop-i-init
loop-i-init c =
    let all : c.args.from + c.args.count - c.args.from ≡ c.args.count = omega arith in
    ap (λ (n : ℕ). list_any (bad c.args.width c.args.view) (range_with_len c.args.from n)) all

pub returns-then-has_other_bytes : goal.returns-then-has_other_bytes
returns-then-has_other_bytes c =
    let here : bad c.args.width c.args.view c.loop-i.i ≡ true = sym c.has_other_bytes.ensures ∙ c.if-has_other_bytes.true in
    sym (any-here (bad c.args.width c.args.view) c.loop-i.i (c.args.from + c.args.count) (omega arith) here) ∙ c.loop-i.invariant

pub loop-i-preserved : goal.loop-i-preserved
loop-i-preserved c =
    let here : bad c.args.width c.args.view c.loop-i.i ≡ false = sym c.has_other_bytes.ensures ∙ c.if-has_other_bytes.false in
    any-later (bad c.args.width c.args.view) c.loop-i.i (c.args.from + c.args.count) (omega arith) here ∙ c.loop-i.invariant

pub returns : goal.returns
returns c = sym (any-end (bad c.args.width c.args.view) c.loop-i.i (c.args.from + c.args.count) (omega arith)) ∙ c.loop-i.invariant
