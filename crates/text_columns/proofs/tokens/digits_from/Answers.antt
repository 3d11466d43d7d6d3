use Rattle.std.proofs.Common.{◌≡◌, arith, length, subst}
use Rattle.text_columns.specs.inner.Plain.{AreDigits}
use Rattle.text_columns.proofs.ShortIntegers.{digits_fit}
use Rattle.text_columns.proofs.tokens.digits_from.Goals as goal

pub returns : goal.returns
returns c =
    let d = c.args.text.now in
    let end = c.read_digits-end.result.0 in
    let number = c.read_digits-end.result.1 in
    let digits = c.read_digits-end.ensures.digits in
    let last : end ≡ length d = omega (arith, digits.high, c.if-end-text.false) in
    let all = subst (λ k. AreDigits d c.args.from k number) last digits in
    (omega (arith, c.if-text-from.false), digits_fit d c.args.from end number digits c.read_digits-end.ensures.few, all)
