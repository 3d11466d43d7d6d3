use Rattle.std.specs.Prelude.{Some}
use Rattle.std.proofs.Common.{◌∙◌, ap, arith, sym}
use Rattle.std.proofs.lemmas.Int.{ints}
use Rattle.text_columns.proofs.ShortIntegers.{negated, negated_fits}
use Rattle.text_columns.proofs.ShortNumbers.{negative_integer}
use Rattle.text_columns.proofs.tokens.short_negative.Goals as goal

pub overflow_cast-number : goal.overflow_cast-number
overflow_cast-number c = let few = c.in_ok-digits.ensures.1 in omega (arith, few, ints)

pub overflow_sub-number : goal.overflow_sub-number
overflow_sub-number c = negated_fits c.in_ok-digits.digits c.in_ok-digits.ensures.1

pub returns : goal.returns
returns c =
    let found = c.in_ok-digits in
    let few = found.ensures.1 in
    negative_integer c.args.text.now found.digits c.requires found.ensures.2 found.ensures.0 (omega (arith, c.if-digits-eq0.false)) few ∙ ap Some (sym (negated found.digits few))
