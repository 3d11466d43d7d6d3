use Rattle.query.proofs.IntegerTests.{some_integers}
use Rattle.query.proofs.integer_slots.field_integer.Goals as goal

pub returns-in-None : goal.returns-in-None
returns-in-None c = some_integers c.args.field.now c.integer_of.result c.in-None.is c.integer_of.ensures
