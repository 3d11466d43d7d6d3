use Rattle.std.specs.Prelude.{IfOk, IfSome, Option}
use Rattle.std.proofs.Common.{sym, subst}
use Rattle.text_columns.specs.declared.coding.Coding.{Coding}
use Rattle.text_columns.specs.inner.Kept.{TakesField}
use Rattle.text_columns.proofs.Coded.{plain_text_step}
use Rattle.text_columns.proofs.coding.push_short.Goals as goal

pub returns-in-None : goal.returns-in-None
returns-in-None c = λ text is.
    subst (λ (o : Option Coding). IfOk c.push_short.result (λ taken. IfSome taken (λ weight. TakesField c.args.date_form text weight c.args.values.now o c.push_short.new.self o))) (sym c.in-None.is)
    (plain_text_step c.args.date_form text c.args.values.now c.push_short.new.self c.push_short.result (c.push_short.ensures text is))
