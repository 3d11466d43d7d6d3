use Rattle.ipc_stream.proofs.Reached.{stopped_fails}
use Rattle.ipc_stream.proofs.reading.read_to_end.Goals as goal

pub returns-in-Err : goal.returns-in-Err
returns-in-Err c = stopped_fails c.args.bytes.now c.in-Err.stopped.error c.in-Err.stopped.number c.in-Err.stopped.start c.in-Err.ensures
