use Rattle.std.specs.Prelude.{IfOk, IfSome, Option, Some}
use Rattle.std.proofs.Common.{sym, subst}
use Rattle.text_columns.specs.declared.coding.Coding.{Coding}
use Rattle.text_columns.specs.inner.Kept.{TakesField}
use Rattle.text_columns.proofs.Coded.{coded_text_step, plain_text_step}
use Rattle.text_columns.proofs.coding.push_utf8.Goals as goal

pub returns-in-None : goal.returns-in-None
returns-in-None c = λ date_form.
    subst (λ (o : Option Coding). IfOk c.push_utf8.result (λ taken. IfSome taken (λ weight. TakesField date_form c.args.text.now weight c.args.values.now o c.push_utf8.new.self o))) (sym c.in-None.is)
    (plain_text_step date_form c.args.text.now c.args.values.now c.push_utf8.new.self c.push_utf8.result (c.push_utf8.ensures date_form))

pub returns-in-Some : goal.returns-in-Some
returns-in-Some c = λ date_form.
    let new : Coding = c.push_utf8-in-Some.new.self in
    subst (λ (o : Option Coding). IfOk c.push_utf8-in-Some.result (λ taken. IfSome taken (λ weight. TakesField date_form c.args.text.now weight c.args.values.now o c.push_utf8-in-Some.new.entries (Some new))))
    (sym c.in-Some.is)
    (coded_text_step date_form c.args.text.now c.in-Some.coding new c.args.values.now c.push_utf8-in-Some.new.entries c.push_utf8-in-Some.result (c.push_utf8-in-Some.ensures date_form))
