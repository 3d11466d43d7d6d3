use Rattle.sector_dev.specs.laws.Behind.{left_since_call}
use Rattle.sector_dev.proofs.file.FileDevice.left_no_more_since.Goals as goal

pub returns : goal.returns
returns g c = λ told fresh grows image left.
    let F = g.F.SectorFile in
    let a = c.args.before.now in
    let b = c.args.self.now in
    left_since_call a.stopped a.writes (F.story a.file) b.stopped b.writes (F.story b.file) fresh image (g.met.F.SectorFile.begun a.file told) grows left
