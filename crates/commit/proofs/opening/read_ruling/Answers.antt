use Rattle.std.proofs.lemmas.Result.{err_from_is_err_and}
use Rattle.std.proofs.Common.{◌∙◌, ap, sym, ℕ, Err, subst}
use Rattle.sector_dev.specs.Disk.{Disk, shown_image, Counts}
use Rattle.sector_dev.specs.laws.Time.{read_on, now_read}
use Rattle.commit.specs.Sector.{commit_at}
use Rattle.commit.specs.Ruling.{newer, ruling}
use Rattle.commit.proofs.opening.read_ruling.Goals as goal

pub returns-in_err-first-clause-moments : goal.returns-in_err-first-clause-moments
returns-in_err-first-clause-moments g c = λ told. read_on _ _ _ (c.read_commit.ensures.moments told) (c.read_commit-2.ensures.moments told)

pub returns-clause-moments : goal.returns-clause-moments
returns-clause-moments g c = λ told. read_on _ _ _ (c.read_commit.ensures.moments told) (c.read_commit-2.ensures.moments told)

pub returns-clause-found : goal.returns-clause-found
unfolding ruling
returns-clause-found g c = λ told.
    let same = now_read _ _ (c.read_commit.ensures.moments told) in
    let first = ap (λ (d : Disk). commit_at 1 (shown_image d 1)) (sym same) ∙ c.in_ok-first.ensures.found told in
    (λ i. newer (c.in_ok-zeroth.ensures.found told i) (first i)) ∙ sym c.newer.ensures

-- ---- the device, whatever it tells

pub returns-in_err-zeroth-clause-count : goal.returns-in_err-zeroth-clause-count
returns-in_err-zeroth-clause-count g c = let p = err_from_is_err_and c.from_residual.result c.from_residual.ensures.1 in rw (p.1, p.2) c.in_err-zeroth.ensures.count

pub returns-in_err-zeroth-clause-error : goal.returns-in_err-zeroth-clause-error
returns-in_err-zeroth-clause-error g c = let p = err_from_is_err_and c.from_residual.result c.from_residual.ensures.1 in rw (p.1, p.2) c.in_err-zeroth.ensures.error

pub returns-in_err-first-clause-size : goal.returns-in_err-first-clause-size
returns-in_err-first-clause-size g c = c.read_commit-2.ensures.size ∙ c.read_commit.ensures.size

pub returns-in_err-first-clause-count : goal.returns-in_err-first-clause-count
returns-in_err-first-clause-count g c =
    let p = err_from_is_err_and c.from_residual-in_err-first.result c.from_residual-in_err-first.ensures.1 in
    rw (p.1, p.2) (subst (λ (n : ℕ). Counts {T = Unit {0}} n (g.D.SectorDevice.failed c.read_commit-2.new.device) (Err c.in_err-first.field-0.0)) (c.in_ok-zeroth.ensures.count) c.in_err-first.ensures.count)

pub returns-in_err-first-clause-error : goal.returns-in_err-first-clause-error
returns-in_err-first-clause-error g c = let p = err_from_is_err_and c.from_residual-in_err-first.result c.from_residual-in_err-first.ensures.1 in rw (p.1, p.2) c.in_err-first.ensures.error

pub returns-clause-size : goal.returns-clause-size
returns-clause-size g c = c.read_commit-2.ensures.size ∙ c.read_commit.ensures.size

pub returns-clause-count : goal.returns-clause-count
returns-clause-count g c = c.in_ok-first.ensures.count ∙ c.in_ok-zeroth.ensures.count
