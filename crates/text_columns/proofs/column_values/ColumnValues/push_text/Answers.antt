use Rattle.std.specs.Prelude.{IfOk, IfSome}
use Rattle.std.proofs.Common.{sym, subst}
use Rattle.text_columns.specs.declared.column_values.ColumnValues.{ColumnValues}
use Rattle.text_columns.specs.declared.column_values.ColumnValues.TheVariants.{Binaries, Booleans, FixedBinaries, Integers, Texts}
use Rattle.text_columns.specs.inner.Kept.{TakesText}
use Rattle.text_columns.proofs.Taken.{boolean_step, bytes_step, fixed_step, integer_step, text_step}
use Rattle.text_columns.proofs.column_values.ColumnValues.push_text.Goals as goal

pub returns-in-Booleans : goal.returns-in-Booleans
returns-in-Booleans c =
    subst (λ (v : ColumnValues). IfOk c.push_boolean.result (λ taken. IfSome taken (λ weight. TakesText c.args.date_form c.args.text.now weight v (Booleans c.push_boolean.new.bits)))) (sym c.in-Booleans.is)
    (boolean_step c.args.date_form c.args.text.now c.in-Booleans.bits c.push_boolean.new.bits c.push_boolean.result c.push_boolean.ensures)

pub returns-in-Integers : goal.returns-in-Integers
returns-in-Integers c =
    subst (λ (v : ColumnValues). IfOk c.push_counted.result (λ taken. IfSome taken (λ weight. TakesText c.args.date_form c.args.text.now weight v (Integers c.in-Integers.integer c.in-Integers.counted c.push_counted.new.values)))) (sym c.in-Integers.is)
    (integer_step c.args.date_form c.in-Integers.integer c.in-Integers.counted c.args.text.now c.in-Integers.values c.push_counted.new.values c.push_counted.result (rw c.dates_in.ensures at c.push_counted.ensures))

pub returns-in-Texts : goal.returns-in-Texts
returns-in-Texts c =
    subst (λ (v : ColumnValues). IfOk c.push_contents.result (λ taken. IfSome taken (λ weight. TakesText c.args.date_form c.args.text.now weight v (Texts c.in-Texts.width c.push_contents.new.offsets c.push_contents.new.contents))))
    (sym c.in-Texts.is)
    (text_step c.args.date_form c.in-Texts.width c.args.text.now c.in-Texts.offsets c.in-Texts.contents c.push_contents.new.offsets c.push_contents.new.contents c.push_contents.result c.push_contents.ensures)

pub returns-in-Binaries : goal.returns-in-Binaries
returns-in-Binaries c =
    subst (λ (v : ColumnValues). IfOk c.push_bytes.result (λ taken. IfSome taken (λ weight. TakesText c.args.date_form c.args.text.now weight v (Binaries c.in-Binaries.width c.push_bytes.new.offsets c.push_bytes.new.contents))))
    (sym c.in-Binaries.is)
    (bytes_step c.args.date_form c.in-Binaries.width c.args.text.now c.in-Binaries.offsets c.in-Binaries.contents c.push_bytes.new.offsets c.push_bytes.new.contents c.push_bytes.result c.push_bytes.ensures)

pub returns-in-FixedBinaries : goal.returns-in-FixedBinaries
returns-in-FixedBinaries c =
    subst (λ (v : ColumnValues). IfOk c.push_fixed.result (λ taken. IfSome taken (λ weight. TakesText c.args.date_form c.args.text.now weight v (FixedBinaries c.in-FixedBinaries.width c.push_fixed.new.values)))) (sym c.in-FixedBinaries.is)
    (fixed_step c.args.date_form c.in-FixedBinaries.width c.args.text.now c.in-FixedBinaries.values c.push_fixed.new.values c.push_fixed.result c.push_fixed.ensures)
