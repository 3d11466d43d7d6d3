use Rattle.std.proofs.Common.{◌∙◌, sym, subst}
use Rattle.sector_dev.specs.Disk.{now, shown_image}
use Rattle.commit.specs.Opening.{TellsCause}
use Rattle.commit.specs.laws.Frame.{text_there, text_elsewhere}
use Rattle.commit.proofs.reading.read_text.Goals as goal

pub returns-then-commit-sectors-clause-damaged : goal.returns-then-commit-sectors-clause-damaged
returns-then-commit-sectors-clause-damaged g c = λ told.
    let D = g.D.SectorDevice in
    text_elsewhere (D.size c.args.device.now) (shown_image (now (D.story c.args.device.now))) c.args.commit (λ e. c.if-commit-sectors.true (e ∙ sym c.sectors.ensures))

pub returns-in-Ok-clause-found : goal.returns-in-Ok-clause-found
returns-in-Ok-clause-found g c = λ told.
    let D = g.D.SectorDevice in
    text_there (D.size c.args.device.now) (shown_image (now (D.story c.args.device.now))) c.args.commit (c.if-commit-sectors.false ∙ c.sectors.ensures) ∙ c.in-Ok.ensures.found told

pub returns-in-Err-clause-damaged : goal.returns-in-Err-clause-damaged
returns-in-Err-clause-damaged g c = λ told.
    let D = g.D.SectorDevice in
    subst (TellsCause c.in-Err.error) (sym (text_there (D.size c.args.device.now) (shown_image (now (D.story c.args.device.now))) c.args.commit (c.if-commit-sectors.false ∙ c.sectors.ensures))) (c.in-Err.ensures.damaged told)
