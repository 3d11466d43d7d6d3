use Rattle.cli_scripts.proofs.Reading.{first_marked, first_plain}
use Rattle.cli_scripts.proofs.words.first_word.Goals as goal

pub returns-in-Some : goal.returns-in-Some
returns-in-Some c = first_marked c.args.line.now c.in-Some.text.now _ c.in-Some.ensures c.closed_word.ensures

pub returns-in_ok-plain_word-in-None : goal.returns-in_ok-plain_word-in-None
returns-in_ok-plain_word-in-None c = first_plain c.args.line.now c.in_ok-plain_word-in-None.field-0 c.in-None.ensures c.in_ok-plain_word-in-None.ensures
