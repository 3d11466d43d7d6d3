use Rattle.cli_scripts.proofs.Cutting.{strip_reads, found}
use Rattle.cli_scripts.proofs.words.strip.Goals as goal

pub returns : goal.returns
returns c = strip_reads _ _ _ (found _ _ _ c.strip_prefix.ensures.cases)
