use Rattle.ipc_write.proofs.WrittenMessages.{batch_next_message, batch_type, batch_read_again, batch_after}
use Rattle.ipc_write.proofs.laws.batch_message_is_read_again.Goals as goal

pub returns : goal.returns
returns c =
    let root = c.written_is_read.ensures.root in
    let small = c.metadata_is_within_its_limit.ensures.batch in
    record {
      next_message = λ rows nodes buffers rest fits. batch_next_message root c.next_message_is_framed.ensures.read rows nodes buffers rest fits (small rows nodes buffers fits);
      kind = λ rows nodes buffers fits. batch_type root rows nodes buffers fits (small rows nodes buffers fits);
      header = λ supported rows nodes buffers fits. batch_read_again root supported rows nodes buffers fits (small rows nodes buffers fits);
      after = batch_after;
    }
