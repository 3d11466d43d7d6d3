use Rattle.std.proofs.Common.{◌≡◌, drop}
use Rattle.std.specs.Prelude.{find, bytes_eq}
use Rattle.query.specs.ConditionText.{operator_text, operator_of}
use Rattle.query.proofs.operator.operator_of.Given as goal

abbrev pub invariant-loop-operator : goal.invariant-loop-operator
invariant-loop-operator l = find (λ o. bytes_eq (operator_text o) l.text) (drop l.operator-index l.operator-items) ≡ operator_of l.text
