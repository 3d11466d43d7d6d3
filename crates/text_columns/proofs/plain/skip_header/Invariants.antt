use Rattle.std.specs.Prelude.{not, ◌||◌, ◌==◌}
use Rattle.text_columns.specs.inner.Plain.{AllBetween, ends_line}
use Rattle.text_columns.proofs.plain.skip_header.Given as goal

abbrev pub invariant-loop-i : goal.invariant-loop-i
invariant-loop-i l = AllBetween (λ b. not (ends_line b || (b == 34))) l.text l.from l.i
