use Rattle.std.proofs.Common.{refl}
use Rattle.sector_dev.specs.Disk.{now}
use Rattle.sector_dev.specs.Confirming.{inner_of}
use Rattle.sector_dev.proofs.Confirmed.{safe_as}
use Rattle.sector_dev.proofs.confirmed_file.calls.ConfirmedFileSectorFile.sync_data.Goals as goal

pub returns-clause-changed : goal.returns-clause-changed
returns-clause-changed g c told n none marked =
    safe_as g.F.SectorFile c.write_noted.new.file c.sync_data.new.self n ((now (g.F.SectorFile.story (inner_of c.args.self.now))).at n).shown
    (c.in_ok-write_noted.ensures.others told n _ none (marked, refl)) (c.in_ok-sync_data.ensures.changed told)
