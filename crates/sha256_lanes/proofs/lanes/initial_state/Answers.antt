use Rattle.std.proofs.Common.{refl}
use Rattle.sha256_lanes.proofs.LaneLemmas.{below_four}
use Rattle.sha256_lanes.proofs.lanes.initial_state.Goals as goal

pub returns : goal.returns
returns c = below_four _ refl refl refl refl
