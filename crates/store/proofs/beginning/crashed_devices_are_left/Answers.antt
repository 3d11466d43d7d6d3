use Rattle.store.proofs.Began.{crashed_left}
use Rattle.store.proofs.beginning.crashed_devices_are_left.Goals as goal

pub returns : goal.returns
returns c = crashed_left c.args.device.now c.crash.result c.crash.ensures.size c.crash.ensures.synced c.crash.ensures.allowed
