use Rattle.ipc_write.proofs.HeaderRead.{dictionary_header_read}
use Rattle.ipc_write.proofs.laws.dictionary_is_read_again.Goals as goal

pub returns : goal.returns
returns c = dictionary_header_read
