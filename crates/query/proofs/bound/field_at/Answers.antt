use Rattle.query.proofs.Naming.{column_there}
use Rattle.query.proofs.bound.field_at.Goals as goal

pub returns : goal.returns
returns c = column_there c.get_field.result c.args.fields.now c.args.place c.get_field.ensures
