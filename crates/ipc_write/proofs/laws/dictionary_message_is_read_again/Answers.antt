use Rattle.ipc_write.proofs.WrittenMessages.{dictionary_next_message, dictionary_type, dictionary_read_again, dictionary_after}
use Rattle.ipc_write.proofs.laws.dictionary_message_is_read_again.Goals as goal

pub returns : goal.returns
returns c =
    let root = c.written_is_read.ensures.root in
    let small = c.metadata_is_within_its_limit.ensures.dictionary in
    record {
      next_message = λ id is_delta rows nodes buffers rest known fits. dictionary_next_message root c.next_message_is_framed.ensures.read id is_delta rows nodes buffers rest known fits (small id is_delta rows nodes buffers fits);
      kind = λ id is_delta rows nodes buffers known fits. dictionary_type root id is_delta rows nodes buffers known fits (small id is_delta rows nodes buffers fits);
      header = λ supported id is_delta rows nodes buffers known fits. dictionary_read_again root supported id is_delta rows nodes buffers known fits (small id is_delta rows nodes buffers fits);
      after = dictionary_after;
    }
