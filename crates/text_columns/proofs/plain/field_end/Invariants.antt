use Rattle.std.specs.Prelude.{not}
use Rattle.text_columns.specs.inner.Plain.{AllBetween, ends_field}
use Rattle.text_columns.proofs.plain.field_end.Given as goal

abbrev pub invariant-loop-i : goal.invariant-loop-i
invariant-loop-i l = AllBetween (λ b. not (ends_field b)) l.text l.from l.i
