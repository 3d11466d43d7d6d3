use Rattle.catalogue.proofs.Counts.{one_more, one_fewer, same_tables}
use Rattle.catalogue.proofs.laws.counts_after_changes.Goals as goal

pub returns : goal.returns
returns c = record { put = one_more; replaced = same_tables; removed = one_fewer }
