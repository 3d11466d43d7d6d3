use Rattle.json.specs.Reads.{token_of}
use Rattle.text_columns.proofs.TokenCells.{token_coded}
use Rattle.text_columns.proofs.coding.Coding.push_token.Goals as goal

pub returns-then-has_texts : goal.returns-then-has_texts
returns-then-has_texts c = c.push_string.ensures c.args.date_form

pub returns-then-branch : goal.returns-then-branch
returns-then-branch c =
    token_coded c.args.date_form (token_of c.args.token) c.in-Some.weight c.args.self.now c.code.new.self c.args.entries.now c.code.new.entries c.clear.new.self c.push_token.new.self c.in_ok-clear.ensures
    (rw c.in-Some.is at c.in_ok-weight.ensures) (c.in_ok-code.ensures c.if-branch.true)
