use Rattle.std.proofs.lemmas.Result.{err_from_is_err_and}
use Rattle.std.proofs.Common.{◌∙◌, refl, inl, inr, subst, ℕ, arith, Err}
use Rattle.sector_dev.specs.Disk.{now, shown_image, Counts}
use Rattle.sector_dev.specs.laws.Time.{passed}
use Rattle.commit.specs.Formatting.{IsFormatting, IsFormatted}
use Rattle.sector_dev.specs.laws.Rows.{on_err}
use Rattle.commit.specs.InOrder.{AreDone, OneFails, clearing_calls, beginning_calls}
use Rattle.commit.specs.inner.Prepared.{HasFirst}
use Rattle.commit.proofs.Called.{done_on, fails_on, failed_before}
use Rattle.commit.proofs.Formatted.{cleaned, cleared, cleared_and_begun, flushes_same, formatted_since, made_empty}
use Rattle.commit.proofs.formatting.clear_and_begin.Goals as goal

pub returns-in_err-sync-clause-moments : goal.returns-in_err-sync-clause-moments
returns-in_err-sync-clause-moments g c = λ told none.
    let D = g.D.SectorDevice in
    passed (IsFormatting (D.size c.args.device.now) c.args.version (now (D.story c.args.device.now))) _ _ (inl refl) (c.in_err-sync.ensures.err told)

pub returns-in_err-prepare-clause-moments : goal.returns-in_err-prepare-clause-moments
returns-in_err-prepare-clause-moments g c = λ told none.
    let D = g.D.SectorDevice in
    cleared (D.size c.args.device.now) c.args.version (D.story c.args.device.now) (D.story c.sync.new.self) (D.story c.prepare.new.device) none (c.in_ok-sync.ensures.ok told) (c.prepare.ensures.moments told)

pub returns-in_err-begin-clause-moments : goal.returns-in_err-begin-clause-moments
returns-in_err-begin-clause-moments g c = λ told none.
    let D = g.D.SectorDevice in
    cleared_and_begun (D.size c.args.device.now) (D.size c.prepare.new.device) c.args.version (D.story c.args.device.now) (D.story c.sync.new.self) (D.story c.prepare.new.device) (D.story c.begin.new.device)
    (c.prepare.ensures.size ∙ c.sync.ensures.size) none (c.in_ok-sync.ensures.ok told) (c.prepare.ensures.moments told) (c.in_ok-prepare.ensures.prepared told) (c.begin.ensures.moments told)

pub returns-clause-moments : goal.returns-clause-moments
returns-clause-moments g c = λ told none.
    let D = g.D.SectorDevice in
    cleared_and_begun (D.size c.args.device.now) (D.size c.prepare.new.device) c.args.version (D.story c.args.device.now) (D.story c.sync.new.self) (D.story c.prepare.new.device) (D.story c.begin.new.device)
    (c.prepare.ensures.size ∙ c.sync.ensures.size) none (c.in_ok-sync.ensures.ok told) (c.prepare.ensures.moments told) (c.in_ok-prepare.ensures.prepared told) (c.begin.ensures.moments told)

pub returns-clause-formatted : goal.returns-clause-formatted
returns-clause-formatted g c = λ told none.
    let D = g.D.SectorDevice in
    let size = D.size c.args.device.now in
    let s0 = D.story c.args.device.now in
    let s1 = D.story c.sync.new.self in
    let clean = cleaned size c.args.version s0 s1 none (c.in_ok-sync.ensures.ok told) in
    let s2 = D.story c.prepare.new.device in
    let s3 = D.story c.begin.new.device in
    let same = flushes_same s0 s1 (c.in_ok-sync.ensures.ok told) in
    let more = c.in_ok-prepare.ensures.begun told in
    formatted_since size c.args.version (now s0) (now s2) (now s3) (omega arith)
    (subst (λ (n : ℕ). IsFormatted n c.args.version (now s2) (now s3)) (c.prepare.ensures.size ∙ c.sync.ensures.size) (c.in_ok-begin.ensures.formatted told (c.in_ok-prepare.ensures.prepared told clean.1)))

pub returns-clause-made : goal.returns-clause-made
returns-clause-made g c = λ told.
    let D = g.D.SectorDevice in
    let s2 = D.story c.prepare.new.device in
    let s3 = D.story c.begin.new.device in
    let begun = subst (λ (n : ℕ). HasFirst n c.args.version (shown_image (now s2)) (shown_image (now s3))) (c.prepare.ensures.size ∙ c.sync.ensures.size) (c.in_ok-begin.ensures.first told) in
    made_empty (D.size c.args.device.now) c.args.version (D.story c.args.device.now) (D.story c.sync.new.self) s2 s3 (c.in_ok-sync.ensures.ok told) (c.in_ok-prepare.ensures.zeros told) begun

-- ---- the device, whatever it tells

pub returns-in_err-sync-clause-count : goal.returns-in_err-sync-clause-count
returns-in_err-sync-clause-count g c = let p = err_from_is_err_and c.from_residual.result c.from_residual.ensures.1 in rw (p.1, p.2) c.in_err-sync.ensures.count

pub returns-in_err-sync-clause-error : goal.returns-in_err-sync-clause-error
returns-in_err-sync-clause-error g c = let p = err_from_is_err_and c.from_residual.result c.from_residual.ensures.1 in rw (p.1, p.2) c.in_err-sync.ensures.error

pub returns-in_err-prepare-clause-size : goal.returns-in_err-prepare-clause-size
returns-in_err-prepare-clause-size g c = c.prepare.ensures.size ∙ c.sync.ensures.size

pub returns-in_err-prepare-clause-count : goal.returns-in_err-prepare-clause-count
returns-in_err-prepare-clause-count g c =
    let p = err_from_is_err_and c.from_residual-in_err-prepare.result c.from_residual-in_err-prepare.ensures.1 in
    rw (p.1, p.2) (subst (λ (n : ℕ). Counts {T = Unit {0}} n (g.D.SectorDevice.failed c.prepare.new.device) (Err c.in_err-prepare.field-0.0)) (c.in_ok-sync.ensures.count) c.in_err-prepare.ensures.count)

pub returns-in_err-prepare-clause-error : goal.returns-in_err-prepare-clause-error
returns-in_err-prepare-clause-error g c = let p = err_from_is_err_and c.from_residual-in_err-prepare.result c.from_residual-in_err-prepare.ensures.1 in rw (p.1, p.2) c.in_err-prepare.ensures.error

pub returns-in_err-begin-clause-size : goal.returns-in_err-begin-clause-size
returns-in_err-begin-clause-size g c = c.begin.ensures.size ∙ c.prepare.ensures.size ∙ c.sync.ensures.size

pub returns-in_err-begin-clause-count : goal.returns-in_err-begin-clause-count
returns-in_err-begin-clause-count g c =
    let p = err_from_is_err_and c.from_residual-in_err-begin.result c.from_residual-in_err-begin.ensures.1 in
    rw (p.1, p.2) (subst (λ (n : ℕ). Counts {T = Unit {0}} n (g.D.SectorDevice.failed c.begin.new.device) (Err c.in_err-begin.field-0.0)) (c.in_ok-prepare.ensures.count ∙ c.in_ok-sync.ensures.count) c.in_err-begin.ensures.count)

pub returns-in_err-begin-clause-error : goal.returns-in_err-begin-clause-error
returns-in_err-begin-clause-error g c = let p = err_from_is_err_and c.from_residual-in_err-begin.result c.from_residual-in_err-begin.ensures.1 in rw (p.1, p.2) c.in_err-begin.ensures.error

pub returns-clause-size : goal.returns-clause-size
returns-clause-size g c = c.begin.ensures.size ∙ c.prepare.ensures.size ∙ c.sync.ensures.size

pub returns-clause-count : goal.returns-clause-count
returns-clause-count g c = c.in_ok-begin.ensures.count ∙ c.in_ok-prepare.ensures.count ∙ c.in_ok-sync.ensures.count

-- ---- the calls in order

pub returns-in_err-sync-clause-cut_short : goal.returns-in_err-sync-clause-cut_short
returns-in_err-sync-clause-cut_short g c = on_err c.from_residual.result (λ told. inl (c.in_err-sync.ensures.err told))

pub returns-in_err-prepare-clause-cut_short : goal.returns-in_err-prepare-clause-cut_short
returns-in_err-prepare-clause-cut_short g c = on_err c.from_residual-in_err-prepare.result (λ told.
    let begins = beginning_calls (g.D.SectorDevice.size c.args.device.now) c.args.version in
    inr (g.D.SectorDevice.story c.sync.new.self, c.in_ok-sync.ensures.ok told, failed_before clearing_calls begins _ _ (c.in_err-prepare.ensures.cut_short told)))

pub returns-in_err-begin-clause-cut_short : goal.returns-in_err-begin-clause-cut_short
returns-in_err-begin-clause-cut_short g c = on_err c.from_residual-in_err-begin.result (λ told.
    let D = g.D.SectorDevice in
    let begins = beginning_calls (D.size c.args.device.now) c.args.version in
    let begun = subst (λ (n : ℕ). OneFails (beginning_calls n c.args.version) (D.story c.prepare.new.device) (D.story c.begin.new.device)) (c.prepare.ensures.size ∙ c.sync.ensures.size) (c.in_err-begin.ensures.cut_short told) in
    inr (D.story c.sync.new.self, c.in_ok-sync.ensures.ok told, fails_on clearing_calls begins (D.story c.sync.new.self) (D.story c.prepare.new.device) (D.story c.begin.new.device) (c.in_ok-prepare.ensures.order told) begun))

pub returns-clause-order : goal.returns-clause-order
returns-clause-order g c = λ told.
    let D = g.D.SectorDevice in
    let begins = beginning_calls (D.size c.args.device.now) c.args.version in
    let begun = subst (λ (n : ℕ). AreDone (beginning_calls n c.args.version) (D.story c.prepare.new.device) (D.story c.begin.new.device)) (c.prepare.ensures.size ∙ c.sync.ensures.size) (c.in_ok-begin.ensures.order told) in
    (D.story c.sync.new.self, c.in_ok-sync.ensures.ok told, done_on clearing_calls begins (D.story c.sync.new.self) (D.story c.prepare.new.device) (D.story c.begin.new.device) (c.in_ok-prepare.ensures.order told) begun)
