use Rattle.std.proofs.Common.{ap, arith, sym}
use Rattle.std.proofs.lemmas.List.{drop_all}
use Rattle.json.specs.Word.{ends_word}
use Rattle.text_columns.proofs.lexemes.ends_word.Goals as goal

pub returns-then-at-line : goal.returns-then-at-line
returns-then-at-line c = sym (ap ends_word (drop_all c.args.at c.args.line.now (omega arith)))
