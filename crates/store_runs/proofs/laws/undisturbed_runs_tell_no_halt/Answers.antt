use Rattle.store_runs.specs.laws.Unhalted.{tells_no_halt}
use Rattle.store_runs.proofs.laws.undisturbed_runs_tell_no_halt.Goals as goal

pub returns : goal.returns
returns c = tells_no_halt
