use Rattle.ipc_stream.proofs.add.add_after.Goals as goal

pub returns-in-Ok : goal.returns-in-Ok
returns-in-Ok c = λ k is. c.in-Ok.ensures k is

pub returns-in-Err : goal.returns-in-Err
returns-in-Err c = λ k is. c.in-Err.ensures k is
