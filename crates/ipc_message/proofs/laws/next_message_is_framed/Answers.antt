use Rattle.ipc_message.proofs.FramedLemmas.{framed_next_message, next_message_framed, marked_next_message, next_end_of_stream}
use Rattle.ipc_message.proofs.laws.next_message_is_framed.Goals as goal

pub returns : goal.returns
returns c = record { framed = framed_next_message; read = next_message_framed; marked = marked_next_message; ended = next_end_of_stream }
