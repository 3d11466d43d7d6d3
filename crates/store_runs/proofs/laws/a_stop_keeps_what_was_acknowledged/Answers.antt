use Rattle.store_runs.specs.laws.Kept.{stops_keep}
use Rattle.store_runs.proofs.laws.a_stop_keeps_what_was_acknowledged.Goals as goal

pub returns : goal.returns
returns c = stops_keep
