use Rattle.std.proofs.Common.{sym, subst}
use Rattle.text_columns.specs.declared.column_values.ColumnValues.{ColumnValues}
use Rattle.text_columns.specs.declared.column_values.ColumnValues.TheVariants.{Binaries, Texts}
use Rattle.text_columns.specs.inner.Kept.{TakesKey}
use Rattle.text_columns.proofs.Keys.{binaries_key, texts_key}
use Rattle.text_columns.proofs.column_values.ColumnValues.push_key.Goals as goal

pub returns-in_ok-extend-in-Texts : goal.returns-in_ok-extend-in-Texts
returns-in_ok-extend-in-Texts c =
    subst (λ (v : ColumnValues). TakesKey c.args.key.now v (Texts c.in-Texts.width c.extend.new.offsets c.extend.new.contents)) (sym c.in-Texts.is)
    (texts_key c.in-Texts.width c.args.key.now c.in-Texts.offsets c.in-Texts.contents c.extend.new.offsets c.extend.new.contents c.in_ok-extend-in-Texts.ensures.more c.in_ok-extend-in-Texts.ensures.end)

pub returns-in_ok-extend-in-Binaries : goal.returns-in_ok-extend-in-Binaries
returns-in_ok-extend-in-Binaries c =
    subst (λ (v : ColumnValues). TakesKey c.args.key.now v (Binaries c.in-Binaries.width c.extend-in-Binaries.new.offsets c.extend-in-Binaries.new.contents)) (sym c.in-Binaries.is)
    (binaries_key c.in-Binaries.width c.args.key.now c.in-Binaries.offsets c.in-Binaries.contents c.extend-in-Binaries.new.offsets c.extend-in-Binaries.new.contents
    c.in_ok-extend-in-Binaries.ensures.more c.in_ok-extend-in-Binaries.ensures.end)
