use Rattle.std.proofs.Common.{◌≡◌, ◌+◌, drop}
use Rattle.civil_days.specs.inner.TimeForm.{date_length}
use Rattle.civil_days.proofs.read_time.date_length.Given as goal

abbrev pub invariant-loop-i : goal.invariant-loop-i
invariant-loop-i l = l.i + date_length (drop l.i l.text) ≡ date_length l.text
