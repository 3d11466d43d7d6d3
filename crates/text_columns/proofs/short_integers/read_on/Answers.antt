use Rattle.std.proofs.Common.{◌∙◌, arith, get_or, refl, sym}
use Rattle.text_import.specs.laws.Digits.{digit_below}
use Rattle.text_columns.proofs.ShortIntegers.{digit_small, one_digit}
use Rattle.text_columns.proofs.short_integers.read_on.Goals as goal

pub overflow_mul-number : goal.overflow_mul-number
overflow_mul-number c =
    let room = digit_small c.args.text.now c.args.from c.loop-i.i c.loop-i.number c.loop-i.invariant (omega (arith, c.loop-i-test.true, c.requires.few)) in
    omega (arith, room)

pub overflow_add-number : goal.overflow_add-number
overflow_add-number c =
    let room = digit_small c.args.text.now c.args.from c.loop-i.i c.loop-i.number c.loop-i.invariant (omega (arith, c.loop-i-test.true, c.requires.few)) in
    let below = digit_below (get_or c.args.text.now c.loop-i.i 0) (sym c.is_ascii_digit.ensures.value ∙ c.if-not-is_ascii_digit.false) in
    omega (arith, room, below, c.from.ensures)

pub loop-i-preserved : goal.loop-i-preserved
loop-i-preserved c =
    let digit = sym c.is_ascii_digit.ensures.value ∙ c.if-not-is_ascii_digit.false in
    rw c.from.ensures (one_digit c.args.text.now c.args.from c.loop-i.i c.loop-i.number (get_or c.args.text.now c.loop-i.i 0) c.loop-i.invariant (omega (arith, c.loop-i-test.true, c.requires.high)) refl digit)
