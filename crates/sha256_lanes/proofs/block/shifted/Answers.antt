use Rattle.sha256_lanes.proofs.LaneLemmas.{shifts_each}
use Rattle.sha256_lanes.proofs.block.shifted.Goals as goal

pub returns : goal.returns
returns c = shifts_each c.args.k c.args.x c.fits-x.0
