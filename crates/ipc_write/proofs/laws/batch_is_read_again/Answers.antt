use Rattle.ipc_write.proofs.HeaderRead.{batch_header_read}
use Rattle.ipc_write.proofs.laws.batch_is_read_again.Goals as goal

pub returns : goal.returns
returns c = batch_header_read
