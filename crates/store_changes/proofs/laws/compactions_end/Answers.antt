use Rattle.store_changes.specs.laws.Exchanged.{exchanged_held}
use Rattle.store_changes.specs.laws.Shrinking.{few_in_turn}
use Rattle.store_changes.proofs.laws.compactions_end.Goals as goal

pub returns : goal.returns
returns c = record { tables = exchanged_held; few = few_in_turn }
