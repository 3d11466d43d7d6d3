use Rattle.std.proofs.Common.{◌∙◌, sym}
use Rattle.text_columns.proofs.PlainText.{marked_text, short_text, unmarked_text}
use Rattle.text_columns.proofs.plain.behind_mark.Goals as goal

pub returns-then-text-lt3-clause-rest : goal.returns-then-text-lt3-clause-rest
returns-then-text-lt3-clause-rest c = short_text c.args.text.now c.if-text-lt3.true

pub returns-then-is_mark-clause-rest : goal.returns-then-is_mark-clause-rest
returns-then-is_mark-clause-rest c = marked_text c.args.text.now c.if-text-lt3.false (sym c.is_mark.ensures ∙ c.if-is_mark.true)

pub returns-clause-rest : goal.returns-clause-rest
returns-clause-rest c = unmarked_text c.args.text.now c.if-text-lt3.false (sym c.is_mark.ensures ∙ c.if-is_mark.false)
