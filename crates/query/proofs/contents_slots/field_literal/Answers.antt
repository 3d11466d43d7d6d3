use Rattle.cells.specs.View.{cell}
use Rattle.query.proofs.ContentsTests.{some_contents}
use Rattle.query.proofs.contents_slots.field_literal.Goals as goal

pub returns-in-None : goal.returns-in-None
returns-in-None c = some_contents c.args.field.now (cell c.args.literal.now) c.literal_of.result c.in-None.is c.literal_of.ensures
