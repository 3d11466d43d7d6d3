use Rattle.catalogue.proofs.Sizes.{run_is_named}
use Rattle.catalogue.proofs.laws.runs_are_named.Goals as goal

pub returns : goal.returns
returns c = run_is_named
