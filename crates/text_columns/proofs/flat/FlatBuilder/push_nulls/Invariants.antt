use Rattle.text_columns.specs.declared.builder.ColumnBuilder.{Flat}
use Rattle.text_columns.specs.inner.Kept.{AppendsNulls}
use Rattle.text_columns.proofs.flat.FlatBuilder.push_nulls.Given as goal

abbrev pub invariant-loop : goal.invariant-loop
invariant-loop l = AppendsNulls l.counter (Flat l.initial.self) (Flat l.self)
