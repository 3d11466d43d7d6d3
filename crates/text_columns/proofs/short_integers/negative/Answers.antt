use Rattle.std.proofs.Common.{◌+◌, ◌<◌, ◌^◌, arith}
use Rattle.std.proofs.lemmas.Int.{ints}
use Rattle.text_columns.proofs.ShortIntegers.{digits_fit, negated, negated_fits, negative_field}
use Rattle.text_columns.proofs.short_integers.negative.Goals as goal

pub overflow_cast-number : goal.overflow_cast-number
overflow_cast-number c =
    let few : c.read_digits-end.result.1 < 2 ^ 63 = digits_fit c.args.text.now (c.args.from + 1) c.read_digits-end.result.0 c.read_digits-end.result.1 c.read_digits-end.ensures.digits c.read_digits-end.ensures.few in
    omega (arith, ints)

pub overflow_sub-number : goal.overflow_sub-number
overflow_sub-number c =
    negated_fits c.read_digits-end.result.1 (digits_fit c.args.text.now (c.args.from + 1) c.read_digits-end.result.0 c.read_digits-end.result.1 c.read_digits-end.ensures.digits c.read_digits-end.ensures.few)

pub returns : goal.returns
returns c =
    let end = c.read_digits-end.result.0 in
    let number = c.read_digits-end.result.1 in
    let digits = c.read_digits-end.ensures.digits in
    let few = digits_fit c.args.text.now (c.args.from + 1) end number digits c.read_digits-end.ensures.few in
    negative_field c.args.text.now c.args.from end number c.requires digits (omega (arith, digits.low, c.if-end-first.false)) (c.ends_at.ensures c.if-not-ends_at.false) _ (negated number few)
