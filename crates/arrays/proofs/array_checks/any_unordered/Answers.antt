use Rattle.std.proofs.Common.{◌≡◌, ◌∙◌, true, false, sym}
use Rattle.arrays.specs.Checks.{typed_is_short, typed_is_unordered}
use Rattle.arrays.specs.inner.Every.{typed_view}
use Rattle.arrays.proofs.Everys.{none_here, test_here, test_later}
use Rattle.arrays.proofs.array_checks.any_unordered.Goals as goal

pub is_unordered-requires : goal.is_unordered-requires
is_unordered-requires c =
    (none_here typed_is_short c.args.every.now c.loop-array.array-index c.array-item.result c.loop-array-test.true c.array-item.is c.loop-array.invariant.long).0

pub returns-then-is_unordered : goal.returns-then-is_unordered
returns-then-is_unordered c =
    let here : typed_is_unordered (typed_view c.array-item.result) ≡ true = sym c.is_unordered.ensures ∙ c.if-is_unordered.true in
    sym (test_here typed_is_unordered c.args.every.now c.loop-array.array-index c.array-item.result c.loop-array-test.true c.array-item.is here) ∙ c.loop-array.invariant.same

pub loop-array-preserved : goal.loop-array-preserved
loop-array-preserved c =
    let here : typed_is_unordered (typed_view c.array-item.result) ≡ false = sym c.is_unordered.ensures ∙ c.if-is_unordered.false in
    record {
      long = (none_here typed_is_short c.args.every.now c.loop-array.array-index c.array-item.result c.loop-array-test.true c.array-item.is c.loop-array.invariant.long).1;
      same = test_later typed_is_unordered c.args.every.now c.loop-array.array-index c.array-item.result c.loop-array-test.true c.array-item.is here ∙ c.loop-array.invariant.same;
    }
