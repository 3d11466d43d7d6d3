use Rattle.sector_dev.proofs.Confirmed.{both_again, both_others}
use Rattle.sector_dev.proofs.confirmed_file.ruling.RulingSectors.write_again.Goals as goal

pub returns-clause-again : goal.returns-clause-again
returns-clause-again g c =
    both_again g.F.SectorFile c.args.file.now c.write_again.new.file c.write_again-2.new.file c.args.self.now c.in_ok-write_again.ensures.again c.in_ok-write_again.ensures.others c.write_again-2.result
    c.write_again-2.ensures.again c.write_again-2.ensures.others

pub returns-clause-others : goal.returns-clause-others
returns-clause-others g c =
    both_others g.F.SectorFile c.args.file.now c.write_again.new.file c.write_again-2.new.file c.args.self.now c.in_ok-write_again.ensures.again c.in_ok-write_again.ensures.others c.write_again-2.result
    c.write_again-2.ensures.others
