use Rattle.store_runs.specs.laws.Left.{left_from}
use Rattle.store_runs.proofs.laws.each_stop_is_allowed.Goals as goal

pub returns : goal.returns
returns c = left_from
