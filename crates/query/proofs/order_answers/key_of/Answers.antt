use Rattle.std.proofs.Common.{sym, arith}
use Rattle.std.specs.Prelude.{pos, ◌-ℤ◌, ◌<ℤ◌}
use Rattle.std.specs.Cmp.{int_cmp_is}
use Rattle.std.specs.declared.cmp.Ordering.TheVariants.{Less, Greater}
use Rattle.std.proofs.lemmas.Int.{ints}
use Rattle.query.proofs.order_answers.key_of.Goals as goal

pub returns-then-literal-least : goal.returns-then-literal-least
returns-then-literal-least c = λ n h.
    let z = pos n -ℤ pos c.args.bias in
    let more : c.args.literal <ℤ z = omega (arith, ints) in
    sym (int_cmp_is z c.args.literal Greater more)

pub returns-then-literal-end : goal.returns-then-literal-end
returns-then-literal-end c = λ n h.
    let z = pos n -ℤ pos c.args.bias in
    let less : z <ℤ c.args.literal = omega (arith, ints, h) in
    sym (int_cmp_is z c.args.literal Less less)

pub unsigned-requires-clause-least : goal.unsigned-requires-clause-least
unsigned-requires-clause-least c = omega (arith, ints)

pub unsigned-requires-clause-most : goal.unsigned-requires-clause-most
unsigned-requires-clause-most c = omega (arith, ints)

pub returns : goal.returns
returns c = (omega (arith, ints, c.unsigned.ensures), omega (arith, ints, c.unsigned.ensures))
