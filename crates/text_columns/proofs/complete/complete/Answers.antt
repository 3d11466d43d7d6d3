use Rattle.text_columns.proofs.TokenCells.{absent_step, member_kept}
use Rattle.text_columns.proofs.complete.complete.Goals as goal

pub returns-in-Some : goal.returns-in-Some
returns-in-Some c = λ date_form. rw c.in-Some.is (member_kept date_form c.in-Some.weight c.args.builder.now)

pub returns-in-None : goal.returns-in-None
returns-in-None c = λ date_form. rw c.in-None.is (absent_step date_form c.args.builder.now c.push_null.new.self c.push_null.result c.push_null.ensures)
