use Rattle.text_columns.proofs.Coded.{text_coded}
use Rattle.text_columns.proofs.coding.Coding.push_text.Goals as goal

pub returns-then-branch : goal.returns-then-branch
returns-then-branch c =
    text_coded c.args.date_form c.args.text.now c.in-Some.weight c.args.self.now c.code.new.self c.args.entries.now c.code.new.entries c.clear.new.self c.push_text.new.self c.in_ok-clear.ensures
    (rw c.in-Some.is at c.in_ok-weight.ensures) (c.in_ok-code.ensures c.if-branch.true)
