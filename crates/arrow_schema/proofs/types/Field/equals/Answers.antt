use Rattle.arrow_schema.proofs.Deciding.{equal_decided}
use Rattle.arrow_schema.proofs.types.Field.equals.Goals as goal

pub returns : goal.returns
returns c = equal_decided _ _ _ c.same_field.ensures
