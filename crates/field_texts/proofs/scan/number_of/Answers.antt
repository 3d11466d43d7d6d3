use Rattle.std.proofs.Common.{◌∙◌, arith, refl}
use Rattle.field_texts.specs.inner.Scan.{value}
use Rattle.field_texts.proofs.Digits.{next_digit}
use Rattle.field_texts.proofs.scan.number_of.Goals as goal

pub loop-digit-init : goal.loop-digit-init
unfolding value
loop-digit-init c = record { known = rw c.as_bytes-digit-items.ensures.value refl; small = omega arith }

pub loop-digit-preserved : goal.loop-digit-preserved
loop-digit-preserved c = record {
  known = next_digit _ _ c.loop-digit.number _ c.loop-digit-test.true (omega (arith, c.saturating_add-number.ensures, c.from.ensures, c.saturating_sub.ensures, c.saturating_mul.ensures, c.loop-digit.invariant.small)) ∙ c.loop-digit.invariant.known;
  small = c.saturating_add-number.type_inv;
}
