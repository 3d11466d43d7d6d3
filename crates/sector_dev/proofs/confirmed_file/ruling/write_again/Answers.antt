use Rattle.sector_dev.proofs.Confirmed.{again_after, others_after}
use Rattle.sector_dev.proofs.confirmed_file.ruling.write_again.Goals as goal

pub returns-in-Some-clause-again : goal.returns-in-Some-clause-again
returns-in-Some-clause-again g c =
    again_after g.F.SectorFile c.args.file.now c.write_at.new.self c.args.n c.in-Some.content c.args.shown.now c.from_ref.result.now c.in-Some.is c.from_ref.ensures.value c.write_at.result
    c.write_at.ensures.ok c.write_at.ensures.changed

pub returns-in-Some-clause-others : goal.returns-in-Some-clause-others
returns-in-Some-clause-others g c =
    others_after g.F.SectorFile c.args.file.now c.write_at.new.self c.args.n c.in-Some.content c.args.shown.now c.from_ref.result.now c.in-Some.is c.from_ref.ensures.value c.write_at.result
    c.write_at.ensures.ok c.write_at.ensures.changed
