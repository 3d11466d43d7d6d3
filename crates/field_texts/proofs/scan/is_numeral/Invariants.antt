use Rattle.std.proofs.Common.{◌≡◌, drop}
use Rattle.std.specs.List.{list_all}
use Rattle.field_texts.specs.inner.Scan.{is_digit}
use Rattle.field_texts.proofs.scan.is_numeral.Given as goal

abbrev pub invariant-loop-digit : goal.invariant-loop-digit
invariant-loop-digit l = list_all is_digit (drop l.digit-index l.digit-items) ≡ list_all is_digit l.digits
