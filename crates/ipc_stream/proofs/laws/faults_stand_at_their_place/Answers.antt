use Rattle.ipc_stream.proofs.FaultPlace.{fault_place, no_fault_place}
use Rattle.ipc_stream.proofs.NextMessageLaw.{NextMessageLaw}
use Rattle.ipc_stream.proofs.laws.faults_stand_at_their_place.Goals as goal

pub returns : goal.returns
returns c =
    let is = c.next_message_is_framed.ensures in
    let law : NextMessageLaw = record { framed = is.framed; read = is.read; marked = is.marked; ended = is.ended } in
    record { placed = fault_place law; nowhere = no_fault_place }
