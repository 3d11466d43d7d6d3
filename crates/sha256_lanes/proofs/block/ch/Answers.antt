use Rattle.sha256_lanes.proofs.LaneLemmas.{lanes_ch}
use Rattle.sha256_lanes.proofs.block.ch.Goals as goal

pub returns : goal.returns
returns c = lanes_ch c.args.x c.fits-x.0 c.args.y c.fits-y.0 c.args.z c.fits-z.0
