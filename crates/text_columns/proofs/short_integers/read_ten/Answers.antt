use Rattle.std.proofs.Common.{◌≡◌, ◌∙◌, ◌+◌, ◌-◌, ◌*◌, ◌<◌, ℕ, arith, get_or, length, refl, subst, sym}
use Rattle.text_columns.specs.inner.Plain.{AreDigits}
use Rattle.text_import.specs.laws.Digits.{digit_below}
use Rattle.text_columns.proofs.ShortIntegers.{digit_small, no_digits, one_digit}
use Rattle.text_columns.proofs.short_integers.read_ten.Goals as goal

pub loop-k-init : goal.loop-k-init
loop-k-init c =
    let start : c.args.from + 0 ≡ c.args.from = omega arith in
    subst (λ (n : ℕ). AreDigits c.args.text.now c.args.from n 0) (sym start) (no_digits c.args.text.now c.args.from (omega (arith, c.requires)))

pub overflow_mul-number : goal.overflow_mul-number
overflow_mul-number c =
    let room = digit_small c.args.text.now c.args.from (c.args.from + c.loop-k.k) c.loop-k.number c.loop-k.invariant (omega (arith, c.loop-k-test.true)) in
    omega (arith, room)

pub overflow_add-number : goal.overflow_add-number
overflow_add-number c =
    let room = digit_small c.args.text.now c.args.from (c.args.from + c.loop-k.k) c.loop-k.number c.loop-k.invariant (omega (arith, c.loop-k-test.true)) in
    let below = digit_below (get_or c.args.text.now (c.args.from + c.loop-k.k) 0) (sym c.is_ascii_digit.ensures.value ∙ c.if-not-is_ascii_digit.false) in
    omega (arith, room, below, c.from.ensures)

pub loop-k-preserved : goal.loop-k-preserved
loop-k-preserved c =
    let text = c.args.text.now in
    let at = c.args.from + c.loop-k.k in
    let digit = sym c.is_ascii_digit.ensures.value ∙ c.if-not-is_ascii_digit.false in
    let inside : at < length text = omega (arith, c.loop-k-test.true, c.requires) in
    let next : at + 1 ≡ c.args.from + (c.loop-k.k + 1) = omega arith in
    rw c.from.ensures (subst (λ (n : ℕ). AreDigits text c.args.from n (c.loop-k.number * 10 + (get_or text at 0 - 48))) next (one_digit text c.args.from at c.loop-k.number (get_or text at 0) c.loop-k.invariant inside refl digit))

pub returns-clause-digits : goal.returns-clause-digits
returns-clause-digits c =
    let all : c.args.from + c.loop-k.k ≡ c.args.from + 10 = omega (arith, c.loop-k-test.false, c.loop-k.auto.k-end) in
    subst (λ (n : ℕ). AreDigits c.args.text.now c.args.from n c.loop-k.number) all c.loop-k.invariant
