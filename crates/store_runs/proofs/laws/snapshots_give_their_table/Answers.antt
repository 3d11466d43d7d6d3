use Rattle.store_runs.specs.laws.Snapshots.{run_snapshot}
use Rattle.store_runs.proofs.laws.snapshots_give_their_table.Goals as goal

pub returns : goal.returns
returns c = run_snapshot
