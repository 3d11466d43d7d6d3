use Rattle.ipc_stream.proofs.FramedBack.{encoded_means, one_table, fault_reported}
use Rattle.ipc_stream.proofs.FramedMessages.{table_encoded, fault_stands}
use Rattle.ipc_stream.proofs.NextMessageLaw.{NextMessageLaw}
use Rattle.ipc_stream.proofs.laws.meaning_is_framed.Goals as goal

pub returns : goal.returns
returns c =
    let is = c.next_message_is_framed.ensures in
    let law : NextMessageLaw = record { framed = is.framed; read = is.read; marked = is.marked; ended = is.ended } in
    record { table = table_encoded law; once = one_table law; means = encoded_means law; fault = fault_stands law; reported = fault_reported law }
