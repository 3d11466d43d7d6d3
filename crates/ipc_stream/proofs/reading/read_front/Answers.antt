use Rattle.ipc_stream.proofs.reading.read_front.Goals as goal

pub returns : goal.returns
returns c = c.read_to_end.ensures
