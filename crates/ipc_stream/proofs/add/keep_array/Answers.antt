use Rattle.ipc_stream.proofs.add.keep_array.Goals as goal

pub returns-then-is_delta-clause-effect : goal.returns-then-is_delta-clause-effect
returns-then-is_delta-clause-effect c = rw c.if-is_delta.true c.append.ensures.effect

pub returns-else-is_delta-clause-effect : goal.returns-else-is_delta-clause-effect
returns-else-is_delta-clause-effect c = rw c.if-is_delta.false c.replace.ensures.effect
