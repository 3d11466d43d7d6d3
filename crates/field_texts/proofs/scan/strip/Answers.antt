use Rattle.field_texts.proofs.Cutting.{strip_reads, found}
use Rattle.field_texts.proofs.scan.strip.Goals as goal

pub returns : goal.returns
returns c = strip_reads _ _ _ (found _ _ _ c.strip_prefix.ensures.cases)
