use Rattle.ipc_write.proofs.Room.{schema_small}
use Rattle.ipc_write.proofs.WrittenMessages.{dictionary_small, batch_small}
use Rattle.ipc_write.proofs.laws.metadata_is_within_its_limit.Goals as goal

pub returns : goal.returns
returns c =
    let size = c.written_is_read.ensures.size in
    record { schema = schema_small size; dictionary = dictionary_small size; batch = batch_small size }
