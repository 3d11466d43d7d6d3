use Rattle.std.specs.Prelude.{IfOk, IfSome}
use Rattle.std.proofs.Common.{sym, subst}
use Rattle.text_columns.specs.declared.column_values.ColumnValues.{ColumnValues}
use Rattle.text_columns.specs.declared.column_values.ColumnValues.TheVariants.{Integers}
use Rattle.text_columns.specs.inner.Kept.{TakesText}
use Rattle.text_columns.proofs.Taken.{integer_step}
use Rattle.text_columns.proofs.column_values.ColumnValues.push_short.Goals as goal

pub returns-in-Integers : goal.returns-in-Integers
returns-in-Integers c = λ text is.
    subst (λ (v : ColumnValues). IfOk c.push_number.result (λ taken. IfSome taken (λ weight. TakesText c.args.date_form text weight v (Integers c.in-Integers.integer c.in-Integers.counted c.push_number.new.values)))) (sym c.in-Integers.is)
    (integer_step c.args.date_form c.in-Integers.integer c.in-Integers.counted text c.in-Integers.values c.push_number.new.values c.push_number.result (rw c.dates_in.ensures at (c.push_number.ensures text is)))
