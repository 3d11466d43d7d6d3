use mir.Syntax.{w64}
use Rattle.std.proofs.Common.{◌<◌, ◌^◌, arith}
use Rattle.std.proofs.lemmas.Int.{ints, to_z_pos}
use Rattle.text_columns.proofs.ShortIntegers.{digits_fit, unsigned_field}
use Rattle.text_columns.proofs.short_integers.unsigned.Goals as goal

pub overflow_cast-number : goal.overflow_cast-number
overflow_cast-number c =
    let few : c.read_digits-end.result.1 < 2 ^ 63 = digits_fit c.args.text.now c.args.from c.read_digits-end.result.0 c.read_digits-end.result.1 c.read_digits-end.ensures.digits c.read_digits-end.ensures.few in
    omega (arith, ints)

pub returns : goal.returns
returns c =
    let end = c.read_digits-end.result.0 in
    let number = c.read_digits-end.result.1 in
    let digits = c.read_digits-end.ensures.digits in
    let few = digits_fit c.args.text.now c.args.from end number digits c.read_digits-end.ensures.few in
    unsigned_field c.args.text.now c.args.from end number digits (omega (arith, digits.low, c.if-end-from.false)) (c.ends_at.ensures c.if-not-ends_at.false) _ (to_z_pos w64 number few)
