use Rattle.std.specs.Prelude.{OnOk, Option, Some}
use Rattle.std.proofs.Common.{sym, subst}
use Rattle.text_columns.specs.declared.coding.Coding.{Coding}
use Rattle.text_columns.specs.inner.Kept.{TakesNullCell}
use Rattle.text_columns.proofs.Coded.{coded_null_step, plain_null_step}
use Rattle.text_columns.proofs.coding.push_null.Goals as goal

pub returns-in-None : goal.returns-in-None
returns-in-None c =
    subst (λ (o : Option Coding). OnOk c.push_null.result (TakesNullCell c.args.values.now o c.push_null.new.self o)) (sym c.in-None.is)
    (plain_null_step c.args.values.now c.push_null.new.self c.push_null.result c.push_null.ensures)

pub returns-in-Some : goal.returns-in-Some
returns-in-Some c =
    let d = c.in-Some.coding in
    let new : Coding = record { index = d.index; indices = c.push_index.new.indices; keys = d.keys; one = d.one } in
    subst (λ (o : Option Coding). OnOk c.push_index.result (TakesNullCell c.args.values.now o c.args.values.now (Some new))) (sym c.in-Some.is)
    (coded_null_step c.args.values.now d c.push_index.new.indices c.push_index.result c.push_index.ensures.ok)
