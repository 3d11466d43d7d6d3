use Rattle.std.proofs.Common.{◌≡◌, ◌^◌, sym, subst, ◌∙◌, arith}
use Rattle.std.specs.Prelude.{ℤ, pos, ◌<ℤ◌, ◌≤ℤ◌}
use Rattle.std.proofs.lemmas.Int.{ints}
use mir.Syntax.{w128}
use mir.Val.{to_z, of_z}
use Rattle.query.proofs.OrderAnswers.{not_negative, absolute, absolute_below}
use Rattle.query.proofs.order_answers.unsigned.Goals as goal

pub overflow_cast-result : goal.overflow_cast-result
overflow_cast-result c =
    let z = to_z w128 (of_z w128 c.args.number) in
    let same : c.args.number ≡ z = omega (arith, ints) in
    let least : pos 0 ≤ℤ z = subst (λ (x : ℤ). pos 0 ≤ℤ x) same c.requires.least in
    let most : z <ℤ pos (2 ^ 64) = subst (λ (x : ℤ). x <ℤ pos (2 ^ 64)) same c.requires.most in
    (not_negative z least, record { fits = absolute_below z (2 ^ 64) least most })

pub returns : goal.returns
returns c =
    let z = to_z w128 (of_z w128 c.args.number) in
    let same : c.args.number ≡ z = omega (arith, ints) in
    absolute z (subst (λ (x : ℤ). pos 0 ≤ℤ x) same c.requires.least) ∙ sym same
