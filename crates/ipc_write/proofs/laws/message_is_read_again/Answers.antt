use Rattle.ipc_write.proofs.MessageRead.{next_message_again}
use Rattle.ipc_write.proofs.laws.message_is_read_again.Goals as goal

pub returns : goal.returns
returns c = next_message_again c.next_message_is_framed.ensures.read
