use Rattle.store.proofs.Roomed.{used_are}
use Rattle.store.proofs.laws.used_runs_are_named.Goals as goal

pub returns : goal.returns
returns g c = record { usages = c.args.store.now.uses; in_use = used_are c.args.store.now }
