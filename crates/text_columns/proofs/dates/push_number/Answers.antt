use Rattle.text_columns.proofs.dates.push_number.Goals as goal

pub returns-in-None : goal.returns-in-None
returns-in-None c = λ text is. rw c.in-None.is (c.push_short.ensures text is)
