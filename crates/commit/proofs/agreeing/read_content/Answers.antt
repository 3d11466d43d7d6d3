use Rattle.std.proofs.Common.{◌∙◌, ap, sym, subst, Err}
use Rattle.sector_dev.specs.Disk.{Counts}
use Rattle.sector_dev.specs.declared.device.DevError.{DevError}
use Rattle.sector_dev.specs.laws.Time.{only_read}
use Rattle.commit.specs.Agreeing.{content_at}
use Rattle.commit.specs.laws.Agreeing.{holds_lost}
use Rattle.commit.proofs.agreeing.read_content.Goals as goal

pub returns-in-Ok-clause-moments : goal.returns-in-Ok-clause-moments
returns-in-Ok-clause-moments g c = λ told. only_read _ _ (c.in-Ok.ensures.story told)

pub returns-in-Ok-clause-found : goal.returns-in-Ok-clause-found
returns-in-Ok-clause-found g c = λ told. ap (content_at c.args.n) (c.in-Ok.ensures.content told) ∙ sym c.content_in.ensures

pub returns-in-Err-Unreadable-clause-moments : goal.returns-in-Err-Unreadable-clause-moments
returns-in-Err-Unreadable-clause-moments g c = λ told. only_read _ _ (c.in-Err-Unreadable.ensures.story told)

pub returns-in-Err-Unreadable-clause-found : goal.returns-in-Err-Unreadable-clause-found
returns-in-Err-Unreadable-clause-found g c = λ told. holds_lost c.args.n _ (c.in-Err-Unreadable.ensures.unreadable (ap Err c.in-Err-Unreadable.field-0-is) told)

pub returns-in-Err-Failed-clause-moments : goal.returns-in-Err-Failed-clause-moments
returns-in-Err-Failed-clause-moments g c = λ told. only_read _ _ (c.in-Err-Failed.ensures.story told)

pub returns-in-Err-Failed-clause-count : goal.returns-in-Err-Failed-clause-count
returns-in-Err-Failed-clause-count g c =
    let D = g.D.SectorDevice in
    subst (λ (e : DevError). Counts {T = Unit {0}} (D.failed c.args.device.now) (D.failed c.read.new.self) (Err e)) c.in-Err-Failed.field-0-is c.in-Err-Failed.ensures.count

pub returns-in-Err-Failed-clause-found : goal.returns-in-Err-Failed-clause-found
returns-in-Err-Failed-clause-found g c = tt
