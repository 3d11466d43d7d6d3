use Rattle.std.proofs.Common.{◌-◌, ◌+◌, length, arith}
use Rattle.ipc_message.specs.Messages.{envelope_of}
use Rattle.ipc_stream.proofs.Steps.{body_stands}
use Rattle.ipc_stream.proofs.reading.body_at.Goals as goal

pub returns-clause-body : goal.returns-clause-body
returns-clause-body c =
    let m = envelope_of c.args.message.now in
    let law = c.next_message_is_framed.ensures.framed _ m c.requires.next in
    rw c.body-len.ensures
    (body_stands c.args.bytes.now c.args.start (c.args.start + c.args.size - length m.body) m _ law.1 (omega (arith, c.requires.whole)))
