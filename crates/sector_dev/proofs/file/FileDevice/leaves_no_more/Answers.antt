use Rattle.sector_dev.specs.laws.Behind.{behind_leaves}
use Rattle.sector_dev.proofs.file.FileDevice.leaves_no_more.Goals as goal

pub returns : goal.returns
returns g c = λ told image may. let d = c.args.self.now in behind_leaves d.stopped d.writes (g.F.SectorFile.story d.file) image may
