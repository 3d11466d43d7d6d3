use Rattle.ipc_stream.proofs.Reached.{fault_place}
use Rattle.ipc_stream.proofs.placing.place.Goals as goal

pub returns-in-Ok : goal.returns-in-Ok
returns-in-Ok c = c.place_at_end.ensures c.args.bytes.now c.in-Ok.ensures

pub returns-in-Fault : goal.returns-in-Fault
returns-in-Fault c = fault_place c.args.bytes.now c.in-Err.stopped.error c.in-Err.stopped.number c.in-Err.stopped.start c.in-Fault.field-0 c.in-Fault.is c.in-Err.ensures
