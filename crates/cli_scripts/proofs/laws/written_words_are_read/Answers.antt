use Rattle.cli_scripts.proofs.Written.{line_read}
use Rattle.cli_scripts.proofs.laws.written_words_are_read.Goals as goal

pub returns : goal.returns
returns c = line_read
