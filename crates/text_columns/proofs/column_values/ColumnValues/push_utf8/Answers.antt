use Rattle.std.specs.Prelude.{IfOk, IfSome}
use Rattle.std.proofs.Common.{sym, subst}
use Rattle.text_columns.specs.declared.column_values.ColumnValues.{ColumnValues}
use Rattle.text_columns.specs.declared.column_values.ColumnValues.TheVariants.{Texts}
use Rattle.text_columns.specs.inner.Kept.{TakesText}
use Rattle.text_columns.proofs.Taken.{text_step}
use Rattle.text_columns.proofs.column_values.ColumnValues.push_utf8.Goals as goal

pub returns-in-Texts : goal.returns-in-Texts
returns-in-Texts c = λ date_form.
    subst (λ (v : ColumnValues). IfOk c.push_utf8.result (λ taken. IfSome taken (λ weight. TakesText date_form c.args.text.now weight v (Texts c.in-Texts.width c.push_utf8.new.offsets c.push_utf8.new.contents))))
    (sym c.in-Texts.is)
    (text_step date_form c.in-Texts.width c.args.text.now c.in-Texts.offsets c.in-Texts.contents c.push_utf8.new.offsets c.push_utf8.new.contents c.push_utf8.result c.push_utf8.ensures)
