use Rattle.std.proofs.Common.{◌≡◌, ℕ, List}
use Rattle.cli_reports.proofs.DigitLemmas.{digits_are_text}
use Rattle.cli_reports.proofs.digits.HexDigitsDisplay.fmt.Goals as goal

-- src/digits.rt:40:21
pub text_of-requires : goal.text_of-requires
text_of-requires g c = rw (c.digits_of-digits.ensures) (digits_are_text c.args.self.now.digest.now)
