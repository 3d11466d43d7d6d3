use Rattle.cli_scripts.proofs.Written.{one_list}
use Rattle.cli_scripts.proofs.laws.a_line_has_one_list_of_words.Goals as goal

pub returns : goal.returns
returns c = one_list
