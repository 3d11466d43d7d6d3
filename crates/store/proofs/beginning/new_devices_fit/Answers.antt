use Rattle.store.proofs.Began.{new_fits}
use Rattle.store.proofs.beginning.new_devices_fit.Goals as goal

pub returns : goal.returns
returns c = new_fits c.new.result c.args.sectors c.new.ensures.size c.new.ensures.zeros
