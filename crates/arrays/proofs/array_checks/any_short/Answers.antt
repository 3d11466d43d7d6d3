use Rattle.std.proofs.Common.{◌≡◌, ◌∙◌, true, false, sym}
use Rattle.arrays.specs.Checks.{typed_is_short}
use Rattle.arrays.specs.inner.Every.{typed_view}
use Rattle.arrays.proofs.Everys.{test_here, test_later}
use Rattle.arrays.proofs.array_checks.any_short.Goals as goal

pub returns-then-is_short : goal.returns-then-is_short
returns-then-is_short c =
    let here : typed_is_short (typed_view c.array-item.result) ≡ true = sym c.is_short.ensures ∙ c.if-is_short.true in
    sym (test_here typed_is_short c.args.every.now c.loop-array.array-index c.array-item.result c.loop-array-test.true c.array-item.is here) ∙ c.loop-array.invariant

pub loop-array-preserved : goal.loop-array-preserved
loop-array-preserved c =
    let here : typed_is_short (typed_view c.array-item.result) ≡ false = sym c.is_short.ensures ∙ c.if-is_short.false in
    test_later typed_is_short c.args.every.now c.loop-array.array-index c.array-item.result c.loop-array-test.true c.array-item.is here ∙ c.loop-array.invariant
