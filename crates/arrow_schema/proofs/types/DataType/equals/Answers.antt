use Rattle.arrow_schema.proofs.Deciding.{equal_kind_decided}
use Rattle.arrow_schema.proofs.types.DataType.equals.Goals as goal

pub returns : goal.returns
returns c = equal_kind_decided _ _ _ c.same_type.ensures
