use Rattle.store_runs.specs.laws.Settled.{run_settles_all}
use Rattle.store_runs.proofs.laws.undisturbed_runs_settle_what_was_acknowledged.Goals as goal

pub returns : goal.returns
returns c = run_settles_all
