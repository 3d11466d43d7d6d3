use Rattle.ipc_stream.proofs.Reached.{cut_place, unbegun_place, no_place}
use Rattle.ipc_stream.proofs.placing.place_at_end.Goals as goal

pub returns-then-reading-gt0 : goal.returns-then-reading-gt0
returns-then-reading-gt0 c = λ bytes rests. cut_place bytes c.args.reading.now rests c.if-reading-gt0.true

pub returns-in-None : goal.returns-in-None
returns-in-None c = λ bytes rests. unbegun_place bytes c.args.reading.now rests c.if-reading-gt0.false c.in-None.is

pub returns-in-Some : goal.returns-in-Some
returns-in-Some c = λ bytes rests. no_place bytes c.args.reading.now c.in-Some.field-0 rests c.if-reading-gt0.false c.in-Some.is
