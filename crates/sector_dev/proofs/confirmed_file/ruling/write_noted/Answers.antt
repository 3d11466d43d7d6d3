use Rattle.sector_dev.proofs.Confirmed.{noted_others}
use Rattle.sector_dev.proofs.confirmed_file.ruling.write_noted.Goals as goal

pub returns-in-Some-clause-others : goal.returns-in-Some-clause-others
returns-in-Some-clause-others g c =
    noted_others g.F.SectorFile c.args.file.now c.write_again.new.file c.args.ruling.now c.in-Some.ruling c.write_again.result c.in-Some.is c.write_again.ensures.others
