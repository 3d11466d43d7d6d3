use Rattle.std.proofs.Common.{arith, sym, ap, ◌∙◌}
use Rattle.std.proofs.lemmas.List.{take_all}
use Rattle.arrays.specs.inner.SpanLists.{are_inside}
use Rattle.arrays.proofs.SpanLists.{inside_next}
use Rattle.arrays.proofs.visible.joined_spans.are_inside.Goals as goal

pub loop-span-preserved : goal.loop-span-preserved
loop-span-preserved c =
    inside_next c.args.whole c.args.spans.now c.loop-span.span-index c.loop-span-test.true (omega arith) (omega arith) c.loop-span.invariant

pub returns : goal.returns
returns c = λ h. sym (ap (are_inside c.args.whole) (take_all c.loop-span.span-index c.args.spans.now c.loop-span-test.false)) ∙ c.loop-span.invariant
