use Rattle.std.proofs.Common.{◌≡◌, sym, ap, ◌∙◌, refl, arith}
use Rattle.std.specs.Prelude.{ℤ, pos, ◌+ℤ◌, ◌-ℤ◌}
use Rattle.std.specs.Ordering.{int_cmp}
use Rattle.std.proofs.lemmas.Int.{ints}
use mir.Syntax.{w128}
use mir.Val.{to_z, of_z}
use Rattle.query.proofs.OrderAnswers.{order_answers_are, same_order_answers_are}
use Rattle.query.proofs.order_answers.OrderAnswers.of.Goals as goal

pub returns-in-Ok : goal.returns-in-Ok
returns-in-Ok c =
    let bias = c.bias_of-bias.result in
    let same : to_z w128 (of_z w128 c.args.literal) ≡ c.args.literal = omega (arith, ints) in
    let key : pos c.in-Ok.key ≡ c.args.literal +ℤ pos bias = c.in-Ok.ensures.0 ∙ ap (λ (z : ℤ). z +ℤ pos bias) same in
    order_answers_are c.args.integer c.args.operator c.args.literal
    (record { bias = bias; key = c.in-Ok.key; below = c.accepts.result; equal = c.accepts-in-Ok.result; above = c.accepts-in-Ok-2.result })
    c.least_negative.result c.bias_of-bias.ensures c.least_negative.ensures.half key c.in-Ok.ensures.1 c.accepts.ensures c.accepts-in-Ok.ensures c.accepts-in-Ok-2.ensures

pub returns-in-Err : goal.returns-in-Err
returns-in-Err c =
    let bias = c.bias_of-bias.result in
    let same : to_z w128 (of_z w128 c.args.literal) ≡ c.args.literal = omega (arith, ints) in
    let answer = c.accepts-answer.result in
    same_order_answers_are c.args.integer c.args.operator c.args.literal
    (record { bias = bias; key = 0; below = answer; equal = answer; above = answer })
    c.least_negative.result c.in-Err.order c.bias_of-bias.ensures c.least_negative.ensures.half refl
    (λ n h. ap (λ (z : ℤ). int_cmp (pos n -ℤ pos bias) z) (sym same) ∙ c.in-Err.ensures n h)
    c.accepts-answer.ensures c.accepts-answer.ensures c.accepts-answer.ensures
