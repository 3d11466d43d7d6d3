use Rattle.text_columns.specs.inner.Plain.{AreDigits}
use Rattle.text_columns.proofs.short_integers.read_on.Given as goal

abbrev pub invariant-loop-i : goal.invariant-loop-i
invariant-loop-i l = AreDigits l.text l.from l.i l.number
