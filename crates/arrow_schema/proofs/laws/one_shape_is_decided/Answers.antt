use Rattle.std.proofs.Common.{refl}
use Rattle.arrow_schema.specs.OneShape.{have_one_shape}
use Rattle.arrow_schema.proofs.Deciding.{shape_decided}
use Rattle.arrow_schema.proofs.laws.one_shape_is_decided.Goals as goal

pub returns : goal.returns
unfolding have_one_shape
returns c = λ a b. shape_decided (have_one_shape a b) a b refl
