use Rattle.std.proofs.Common.{sym}
use Rattle.std.proofs.lemmas.List.{drop-drop}
use Rattle.text_columns.proofs.plain.behind_line.Goals as goal

pub returns-then-end-text-clause-rest : goal.returns-then-end-text-clause-rest
returns-then-end-text-clause-rest c = sym (drop-drop 1 c.args.end c.args.text.now)
