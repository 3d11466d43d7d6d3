use Rattle.ipc_write.proofs.HeaderRead.{schema_header_read}
use Rattle.ipc_write.proofs.laws.schema_is_read_again.Goals as goal

pub returns : goal.returns
returns c = schema_header_read
