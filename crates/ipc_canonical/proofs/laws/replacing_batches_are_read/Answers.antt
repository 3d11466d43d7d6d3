use Rattle.ipc_canonical.proofs.ReplacingRead.{replacing_read}
use Rattle.ipc_canonical.proofs.laws.replacing_batches_are_read.Goals as goal

pub returns : goal.returns
returns c = replacing_read
