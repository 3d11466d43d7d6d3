use Rattle.std.proofs.Common.{sym, subst}
use Rattle.text_columns.specs.declared.column_values.ColumnValues.{ColumnValues}
use Rattle.text_columns.specs.declared.column_values.ColumnValues.TheVariants.{Binaries, Texts}
use Rattle.text_columns.specs.inner.Kept.{TakesNull}
use Rattle.text_columns.proofs.Taken.{binaries_null, texts_null}
use Rattle.text_columns.proofs.column_values.ColumnValues.push_null.Goals as goal

pub returns-in_ok-push_offset-in-Texts : goal.returns-in_ok-push_offset-in-Texts
returns-in_ok-push_offset-in-Texts c =
    subst (λ (v : ColumnValues). TakesNull v (Texts c.in-Texts.width c.push_offset.new.offsets c.in-Texts.contents)) (sym c.in-Texts.is)
    (texts_null c.in-Texts.width c.in-Texts.offsets c.in-Texts.contents c.push_offset.new.offsets (rw (c.len.ensures, c.in-Texts.contents.ok.0) at c.in_ok-push_offset-in-Texts.ensures.ok))

pub returns-in_ok-push_offset-in-Binaries : goal.returns-in_ok-push_offset-in-Binaries
returns-in_ok-push_offset-in-Binaries c =
    subst (λ (v : ColumnValues). TakesNull v (Binaries c.in-Binaries.width c.push_offset-in-Binaries.new.offsets c.in-Binaries.contents)) (sym c.in-Binaries.is)
    (binaries_null c.in-Binaries.width c.in-Binaries.offsets c.in-Binaries.contents c.push_offset-in-Binaries.new.offsets
    (rw (c.len-in-Binaries.ensures, c.in-Binaries.contents.ok.0) at c.in_ok-push_offset-in-Binaries.ensures.ok))
