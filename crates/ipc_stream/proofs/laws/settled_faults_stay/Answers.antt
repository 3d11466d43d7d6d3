use Rattle.ipc_stream.proofs.Settled.{settled_stays, settled_meant}
use Rattle.ipc_stream.proofs.Unsettled.{unsettled_changes}
use Rattle.ipc_stream.proofs.laws.settled_faults_stay.Goals as goal

pub returns : goal.returns
returns c = record { stays = settled_stays; meant = settled_meant; goes = unsettled_changes }
