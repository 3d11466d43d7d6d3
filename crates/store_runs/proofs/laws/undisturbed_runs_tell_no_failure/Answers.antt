use Rattle.store_runs.specs.laws.Counted.{undisturbed}
use Rattle.store_runs.proofs.laws.undisturbed_runs_tell_no_failure.Goals as goal

pub returns : goal.returns
returns c = undisturbed
