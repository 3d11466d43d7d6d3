use Rattle.field_texts.proofs.Cutting.{cut_reads}
use Rattle.field_texts.proofs.scan.cut.Goals as goal

pub returns : goal.returns
returns c = cut_reads _ _ _ c.split_once.ensures.cases c.requires
