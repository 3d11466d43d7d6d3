use Rattle.std.proofs.Common.{◌≡◌, ◌<◌, ◌^◌, drop, map, ◌-◌}
use Rattle.std.specs.Int.Digits.{number_from_digits_after}
use Rattle.field_texts.specs.inner.Scan.{capped_number, value}
use Rattle.field_texts.proofs.scan.number_of.Given as goal

abbrev pub invariant-loop-digit : goal.invariant-loop-digit
invariant-loop-digit l = record {
  known : capped_number (number_from_digits_after 10 l.number (map (λ d. d - 48) (drop l.digit-index l.digit-items))) ≡ capped_number (value l.digits);
  small : l.number < 2 ^ 32;
}
