-- No control character begins before the place.
use Rattle.std.proofs.Common.{◌≡◌, ◌<◌, ℕ, drop}
use Rattle.cli_reports.specs.Escaped.{control_length}
use Rattle.cli_reports.proofs.escaping.plain_length.Given as goal

abbrev pub invariant-loop-place : goal.invariant-loop-place
invariant-loop-place l = (k : ℕ) → k < l.place → control_length (drop k l.bytes) ≡ 0
