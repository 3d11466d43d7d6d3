use Rattle.std.proofs.Common.{sym, ◌∙◌}
use Rattle.std.specs.Prelude.{bytes_eq}
use Rattle.query.specs.ConditionText.{operator_text, every_operator}
use Rattle.query.proofs.Naming.{skip_one}
use Rattle.query.proofs.operator.operator_of.Goals as goal

pub loop-operator-preserved : goal.loop-operator-preserved
loop-operator-preserved c =
    let other = rw c.operator_text.ensures at (sym c.eq.ensures ∙ c.if-eq.false) in
    skip_one (λ o. bytes_eq (operator_text o) c.args.text.now) every_operator c.loop-operator.operator-index _ c.loop-operator-test.true other ∙ c.loop-operator.invariant
