use Rattle.std.proofs.Common.{refl}
use Rattle.bitmap.proofs.building.fill.Goals as goal

pub returns : goal.returns
returns c = refl
