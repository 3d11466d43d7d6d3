use Rattle.cells.proofs.DistinctEntries.{decided}
use Rattle.cells.proofs.laws.one_entry_is_one_value.Goals as goal

pub returns : goal.returns
returns c = decided
