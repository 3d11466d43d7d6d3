use Rattle.std.proofs.Common.{◌≡◌, ◌∙◌, true, false, sym}
use Rattle.arrays.specs.Checks.{typed_has_short_child}
use Rattle.arrays.specs.inner.Every.{typed_view}
use Rattle.arrays.proofs.Everys.{test_here, test_later}
use Rattle.arrays.proofs.array_checks.any_short_child.Goals as goal

pub returns-then-has_short_child : goal.returns-then-has_short_child
returns-then-has_short_child c =
    let here : typed_has_short_child (typed_view c.array-item.result) ≡ true = sym c.has_short_child.ensures ∙ c.if-has_short_child.true in
    sym (test_here typed_has_short_child c.args.every.now c.loop-array.array-index c.array-item.result c.loop-array-test.true c.array-item.is here) ∙ c.loop-array.invariant

pub loop-array-preserved : goal.loop-array-preserved
loop-array-preserved c =
    let here : typed_has_short_child (typed_view c.array-item.result) ≡ false = sym c.has_short_child.ensures ∙ c.if-has_short_child.false in
    test_later typed_has_short_child c.args.every.now c.loop-array.array-index c.array-item.result c.loop-array-test.true c.array-item.is here ∙ c.loop-array.invariant
