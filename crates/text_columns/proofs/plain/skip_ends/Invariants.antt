use Rattle.text_columns.specs.inner.Plain.{AllBetween, ends_line}
use Rattle.text_columns.proofs.plain.skip_ends.Given as goal

abbrev pub invariant-loop-i : goal.invariant-loop-i
invariant-loop-i l = AllBetween ends_line l.text l.from l.i
