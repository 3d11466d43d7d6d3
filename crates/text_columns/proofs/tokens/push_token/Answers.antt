use Rattle.std.specs.Prelude.{IfOk, IfSome, Option, Some}
use Rattle.std.proofs.Common.{sym, subst}
use Rattle.json.specs.Reads.{token_of}
use Rattle.text_columns.specs.declared.coding.Coding.{Coding}
use Rattle.text_columns.specs.inner.Lines.{TakesCellToken}
use Rattle.text_columns.proofs.TokenCells.{coded_token_step, plain_token_step}
use Rattle.text_columns.proofs.tokens.push_token.Goals as goal

pub returns-in-None : goal.returns-in-None
returns-in-None c =
    let t = token_of c.args.token in
    subst (λ (o : Option Coding). IfOk c.push_token.result (λ taken. IfSome taken (λ weight. TakesCellToken c.args.date_form t weight c.args.values.now o c.push_token.new.self o))) (sym c.in-None.is)
    (plain_token_step c.args.date_form t c.args.values.now c.push_token.new.self c.push_token.result c.push_token.ensures)

pub returns-in-Some : goal.returns-in-Some
returns-in-Some c =
    let t = token_of c.args.token in
    let new : Coding = c.push_token-in-Some.new.self in
    subst (λ (o : Option Coding). IfOk c.push_token-in-Some.result (λ taken. IfSome taken (λ weight. TakesCellToken c.args.date_form t weight c.args.values.now o c.push_token-in-Some.new.entries (Some new))))
    (sym c.in-Some.is)
    (coded_token_step c.args.date_form t c.in-Some.coding new c.args.values.now c.push_token-in-Some.new.entries c.push_token-in-Some.result c.push_token-in-Some.ensures)
