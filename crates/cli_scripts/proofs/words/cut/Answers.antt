use Rattle.cli_scripts.proofs.Cutting.{cut_reads}
use Rattle.cli_scripts.proofs.words.cut.Goals as goal

pub returns : goal.returns
returns c = cut_reads _ _ _ c.split_once.ensures.cases c.requires
