use Rattle.cli_scripts.proofs.Reading.{line_read, no_text}
use Rattle.cli_scripts.proofs.words.words_of_line.Goals as goal

pub returns-in-Some : goal.returns-in-Some
returns-in-Some c = line_read c.args.line.now c.in-Some.text.now c.words_of.result c.in-Some.ensures c.words_of.ensures

pub returns-in-None : goal.returns-in-None
returns-in-None c = no_text c.args.line.now c.in-None.ensures
