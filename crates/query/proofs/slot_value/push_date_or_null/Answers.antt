use Rattle.query.specs.Line.{json_of}
use Rattle.query.proofs.slot_value.push_date_or_null.Goals as goal

pub returns-in-None : goal.returns-in-None
unfolding json_of
returns-in-None c = rw c.in-None.is c.push_bytes.ensures
