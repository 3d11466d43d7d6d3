use mir.Syntax.{w64}
use Rattle.std.specs.Prelude.{Some}
use Rattle.std.proofs.Common.{◌∙◌, ap, arith, sym}
use Rattle.std.proofs.lemmas.Int.{ints, to_z_pos}
use Rattle.text_columns.proofs.ShortNumbers.{unsigned_integer}
use Rattle.text_columns.proofs.tokens.short_unsigned.Goals as goal

pub overflow_cast-number : goal.overflow_cast-number
overflow_cast-number c = let few = c.in_ok-digits.ensures.1 in omega (arith, few, ints)

pub returns : goal.returns
returns c =
    let found = c.in_ok-digits in
    let few = found.ensures.1 in
    unsigned_integer c.args.text.now found.digits found.ensures.2 found.ensures.0 few ∙ ap Some (sym (to_z_pos w64 found.digits few))
