use Rattle.std.proofs.lemmas.Result.{err_from_is_err_and}
use Rattle.std.proofs.Common.{◌∙◌, ap, sym, refl, inl, inr, subst, arith, ℕ, List, Some, Err}
use Rattle.sector_dev.specs.Disk.{now, Counts, Puts, FailsToPut}
use Rattle.sector_dev.specs.laws.Rows.{on_err}
use Rattle.sector_dev.specs.Time.{LeavesOnly}
use Rattle.sector_dev.specs.laws.Time.{goes_on, now_has, passed, two}
use Rattle.commit.specs.Sector.{commit_text}
use Rattle.commit.specs.Formatting.{IsNoneOrEmpty, IsFormatted, first_commit}
use Rattle.commit.proofs.Formatted.{first_found, at_rest, begin_put, begin_failed, begin_done, has_first}
use Rattle.commit.proofs.formatting.begin.Goals as goal

pub returns-in_err-write-clause-moments : goal.returns-in_err-write-clause-moments
returns-in_err-write-clause-moments g c = λ told p.
    let D = g.D.SectorDevice in
    let text = first_found (D.size c.args.device.now) c.args.version _ (omega arith) (omega arith) (c.commit_sector-sector.ensures ∙ ap commit_text (c.first_commit-first.ensures ∙ ap (λ (n : ℕ). first_commit n c.args.version) c.sectors.ensures)) in
    begin_failed (D.size c.args.device.now) c.args.version _ p _ text _ _ refl (c.in_err-write.ensures.err told)

pub returns-in_err-sync-clause-moments : goal.returns-in_err-sync-clause-moments
returns-in_err-sync-clause-moments g c = λ told p.
    let D = g.D.SectorDevice in
    let text = first_found (D.size c.args.device.now) c.args.version _ (omega arith) (omega arith) (c.commit_sector-sector.ensures ∙ ap commit_text (c.first_commit-first.ensures ∙ ap (λ (n : ℕ). first_commit n c.args.version) c.sectors.ensures)) in
    let put = begin_put (D.size c.args.device.now) c.args.version _ p _ text _ _ _ refl (c.in_ok-write.ensures.ok told) in
    goes_on put (passed _ _ _ (now_has (at_rest (D.size c.args.device.now) c.args.version _ p _ text) put) (c.in_err-sync.ensures.err told))

pub returns-clause-moments : goal.returns-clause-moments
returns-clause-moments g c = λ told p.
    let D = g.D.SectorDevice in
    let size = D.size c.args.device.now in
    let text = first_found (D.size c.args.device.now) c.args.version _ (omega arith) (omega arith) (c.commit_sector-sector.ensures ∙ ap commit_text (c.first_commit-first.ensures ∙ ap (λ (n : ℕ). first_commit n c.args.version) c.sectors.ensures)) in
    let put = begin_put size c.args.version _ p _ text _ _ _ refl (c.in_ok-write.ensures.ok told) in
    let both = begin_done size c.args.version _ p _ text (now (D.story c.write.new.self)) (ap now (c.in_ok-write.ensures.ok told)) in
    goes_on put (two (LeavesOnly (IsNoneOrEmpty size c.args.version)) _ _ _ _ (c.in_ok-sync.ensures.ok told) both.0 (now_has (at_rest size c.args.version _ p _ text) put))

pub returns-clause-formatted : goal.returns-clause-formatted
returns-clause-formatted g c = λ told p.
    let D = g.D.SectorDevice in
    let size = D.size c.args.device.now in
    let text = first_found (D.size c.args.device.now) c.args.version _ (omega arith) (omega arith) (c.commit_sector-sector.ensures ∙ ap commit_text (c.first_commit-first.ensures ∙ ap (λ (n : ℕ). first_commit n c.args.version) c.sectors.ensures)) in
    let both = begin_done size c.args.version _ p _ text (now (D.story c.write.new.self)) (ap now (c.in_ok-write.ensures.ok told)) in
    subst (IsFormatted size c.args.version (now (D.story c.args.device.now))) (sym (ap now (c.in_ok-sync.ensures.ok told))) both.1

pub returns-clause-first : goal.returns-clause-first
returns-clause-first g c = λ told.
    let D = g.D.SectorDevice in
    let text = c.commit_sector-sector.ensures ∙ ap commit_text (c.first_commit-first.ensures ∙ ap (λ (n : ℕ). first_commit n c.args.version) c.sectors.ensures) in
    has_first (D.size c.args.device.now) c.args.version (D.story c.args.device.now) (D.story c.write.new.self) (D.story c.sync.new.self) _ text (c.in_ok-write.ensures.ok told) (c.in_ok-sync.ensures.ok told)

-- ---- the device, whatever it tells

pub returns-in_err-write-clause-count : goal.returns-in_err-write-clause-count
returns-in_err-write-clause-count g c = let p = err_from_is_err_and c.from_residual.result c.from_residual.ensures.1 in rw (p.1, p.2) c.in_err-write.ensures.count

pub returns-in_err-write-clause-error : goal.returns-in_err-write-clause-error
returns-in_err-write-clause-error g c = let p = err_from_is_err_and c.from_residual.result c.from_residual.ensures.1 in rw (p.1, p.2) c.in_err-write.ensures.error

pub returns-in_err-sync-clause-size : goal.returns-in_err-sync-clause-size
returns-in_err-sync-clause-size g c = c.sync.ensures.size ∙ c.write.ensures.size

pub returns-in_err-sync-clause-count : goal.returns-in_err-sync-clause-count
returns-in_err-sync-clause-count g c =
    let p = err_from_is_err_and c.from_residual-in_err-sync.result c.from_residual-in_err-sync.ensures.1 in
    rw (p.1, p.2) (subst (λ (n : ℕ). Counts {T = Unit {0}} n (g.D.SectorDevice.failed c.sync.new.self) (Err c.in_err-sync.field-0.0)) (c.in_ok-write.ensures.count) c.in_err-sync.ensures.count)

pub returns-in_err-sync-clause-error : goal.returns-in_err-sync-clause-error
returns-in_err-sync-clause-error g c = let p = err_from_is_err_and c.from_residual-in_err-sync.result c.from_residual-in_err-sync.ensures.1 in rw (p.1, p.2) c.in_err-sync.ensures.error

pub returns-clause-size : goal.returns-clause-size
returns-clause-size g c = c.sync.ensures.size ∙ c.write.ensures.size

pub returns-clause-count : goal.returns-clause-count
returns-clause-count g c = c.in_ok-sync.ensures.count ∙ c.in_ok-write.ensures.count

-- ---- the calls in order

pub returns-in_err-write-clause-cut_short : goal.returns-in_err-write-clause-cut_short
returns-in_err-write-clause-cut_short g c = on_err c.from_residual.result (λ told.
    let D = g.D.SectorDevice in
    let text = c.commit_sector-sector.ensures ∙ ap commit_text (c.first_commit-first.ensures ∙ ap (λ (n : ℕ). first_commit n c.args.version) c.sectors.ensures) in
    inl (subst (λ (t : List ℕ). FailsToPut (D.story c.args.device.now) 1 t (D.story c.write.new.self)) text (c.in_err-write.ensures.err told)))

pub returns-in_err-sync-clause-cut_short : goal.returns-in_err-sync-clause-cut_short
returns-in_err-sync-clause-cut_short g c = on_err c.from_residual-in_err-sync.result (λ told.
    let D = g.D.SectorDevice in
    let text = c.commit_sector-sector.ensures ∙ ap commit_text (c.first_commit-first.ensures ∙ ap (λ (n : ℕ). first_commit n c.args.version) c.sectors.ensures) in
    let put = subst (λ (t : List ℕ). Puts (D.story c.args.device.now) 1 t (Some t) (D.story c.write.new.self)) text (c.in_ok-write.ensures.ok told) in
    inr (D.story c.write.new.self, put, inl (c.in_err-sync.ensures.err told)))

pub returns-clause-order : goal.returns-clause-order
returns-clause-order g c = λ told.
    let D = g.D.SectorDevice in
    let text = c.commit_sector-sector.ensures ∙ ap commit_text (c.first_commit-first.ensures ∙ ap (λ (n : ℕ). first_commit n c.args.version) c.sectors.ensures) in
    let put = subst (λ (t : List ℕ). Puts (D.story c.args.device.now) 1 t (Some t) (D.story c.write.new.self)) text (c.in_ok-write.ensures.ok told) in
    (D.story c.write.new.self, put, (D.story c.sync.new.self, c.in_ok-sync.ensures.ok told, refl))
