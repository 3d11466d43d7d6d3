use Rattle.std.proofs.Common.{◌+◌}
use Rattle.text_columns.specs.inner.Plain.{AreDigits}
use Rattle.text_columns.proofs.short_integers.read_ten.Given as goal

abbrev pub invariant-loop-k : goal.invariant-loop-k
invariant-loop-k l = AreDigits l.text l.from (l.from + l.k) l.number
