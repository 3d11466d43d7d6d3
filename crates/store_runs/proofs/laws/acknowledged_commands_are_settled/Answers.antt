use Rattle.store_runs.specs.laws.Settled.{run_settles}
use Rattle.store_runs.proofs.laws.acknowledged_commands_are_settled.Goals as goal

pub returns : goal.returns
returns c = run_settles
