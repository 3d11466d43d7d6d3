use Rattle.sha256_lanes.proofs.LaneLemmas.{lanes_maj}
use Rattle.sha256_lanes.proofs.block.maj.Goals as goal

pub returns : goal.returns
returns c = lanes_maj c.args.x c.fits-x.0 c.args.y c.fits-y.0 c.args.z c.fits-z.0
