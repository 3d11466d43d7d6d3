use Rattle.std.proofs.Common.{ap, ◌∙◌, ℕ, Some}
use Rattle.sector_dev.specs.Disk.{Sector, put, blank}
use Rattle.sector_dev.specs.laws.Crash.{put_same}
use Rattle.test_device.proofs.other_devices.BriefSectorDevice.read.Goals as goal

pub returns-in-Written-clause-content : goal.returns-in-Written-clause-content
returns-in-Written-clause-content c = λ _.
    rw c.in-Written.is
    (ap (λ (m : ℕ). ((put blank m c.in-Written.content (Some c.in-Written.content)).at c.args.n).shown) c.if-at-n.true
    ∙ ap (λ (s : Sector). s.shown) (put_same blank c.args.n c.in-Written.content (Some c.in-Written.content)))
