use Rattle.store_runs.specs.laws.Never.{tells_none_damaged, tells_a_store_since}
use Rattle.store_runs.proofs.laws.runs_tell_no_damage.Goals as goal

pub returns : goal.returns
returns c = record { damage = tells_none_damaged; no_store = tells_a_store_since }
