use Rattle.ipc_write.proofs.Bodies.{buffers_found, buffers_inside, body_small}
use Rattle.ipc_write.proofs.laws.buffers_stand_in_their_body.Goals as goal

pub returns : goal.returns
returns c = record { found = buffers_found; inside = buffers_inside; size = body_small }
