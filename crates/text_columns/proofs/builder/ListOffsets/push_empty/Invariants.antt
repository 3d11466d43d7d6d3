use Rattle.text_columns.specs.inner.Kept.{PushesEmpty}
use Rattle.text_columns.proofs.builder.ListOffsets.push_empty.Given as goal

abbrev pub invariant-loop : goal.invariant-loop
invariant-loop l = PushesEmpty l.counter l.initial.self l.self
