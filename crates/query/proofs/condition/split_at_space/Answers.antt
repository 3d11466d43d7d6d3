use Rattle.query.proofs.Splitting.{split_reads}
use Rattle.query.proofs.condition.split_at_space.Goals as goal

pub returns : goal.returns
returns c = split_reads _ _ c.split_once.ensures.cases
