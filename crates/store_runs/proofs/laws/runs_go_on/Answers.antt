use Rattle.store_runs.specs.laws.Going.{run_of_one, runs_joined}
use Rattle.store_runs.proofs.laws.runs_go_on.Goals as goal

pub returns : goal.returns
returns c = record { one = run_of_one; joined = runs_joined }
