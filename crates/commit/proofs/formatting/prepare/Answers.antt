use Rattle.std.proofs.lemmas.Result.{err_from_is_err_and}
use Rattle.std.proofs.Common.{◌≡◌, refl, inl, inr, None, Some, replicate, arith, ◌<◌, ℕ, List, Err, subst, ◌∙◌}
use Rattle.sector_dev.specs.Disk.{Story, now, Counts, Puts, FailsToPut}
use Rattle.sector_dev.specs.laws.Rows.{on_err}
use Rattle.sector_dev.specs.laws.Time.{goes_on, now_has, passed}
use Rattle.commit.proofs.Formatted.{put_grows, failed_grows, flush_grows, zeros_keep, behind_keeps, prepared, puts_more, flushes_same, has_zeros}
use Rattle.sector_dev.specs.History.{zeros}
use Rattle.commit.proofs.formatting.prepare.Goals as goal

is_zeros : replicate 512 0 ≡ zeros
unfolding zeros
is_zeros = refl

pub returns-in_err-write-clause-moments : goal.returns-in_err-write-clause-moments
returns-in_err-write-clause-moments g c = λ told has. failed_grows _ _ 0 _ (zeros_keep _ is_zeros) has (c.in_err-write.ensures.err told)

pub returns-in_err-write-2-clause-moments : goal.returns-in_err-write-2-clause-moments
returns-in_err-write-2-clause-moments g c = λ told has.
    let one = put_grows _ _ 0 _ _ (zeros_keep _ is_zeros) has (c.in_ok-write.ensures.ok told) in
    goes_on one (failed_grows _ _ 2 _ (behind_keeps _) (now_has has one) (c.in_err-write-2.ensures.err told))

pub returns-in_err-sync-clause-moments : goal.returns-in_err-sync-clause-moments
returns-in_err-sync-clause-moments g c = λ told has.
    let one = put_grows _ _ 0 _ _ (zeros_keep _ is_zeros) has (c.in_ok-write.ensures.ok told) in
    let both = goes_on one (put_grows _ _ 2 _ _ (behind_keeps _) (now_has has one) (c.in_ok-write-2.ensures.ok told)) in
    goes_on both (passed _ _ _ (now_has has both) (c.in_err-sync.ensures.err told))

pub returns-clause-moments : goal.returns-clause-moments
returns-clause-moments g c = λ told has.
    let D = g.D.SectorDevice in
    let one = put_grows _ _ 0 _ _ (zeros_keep _ is_zeros) has (c.in_ok-write.ensures.ok told) in
    let both = goes_on one (put_grows _ _ 2 _ _ (behind_keeps _) (now_has has one) (c.in_ok-write-2.ensures.ok told)) in
    goes_on both (flush_grows _ _ (g.met.D.SectorDevice.shows c.write-2.new.self told) (now_has has both) (c.in_ok-sync.ensures.ok told))

pub returns-clause-prepared : goal.returns-clause-prepared
returns-clause-prepared g c = λ told has.
    let D = g.D.SectorDevice in
    let s0 = D.story c.args.device.now in
    let s1 = D.story c.write.new.self in
    let s2 = D.story c.write-2.new.self in
    let s3 = D.story c.sync.new.self in
    let one = put_grows s0 s1 0 _ _ (zeros_keep _ is_zeros) has (c.in_ok-write.ensures.ok told) in
    let both = goes_on one (put_grows s1 s2 2 _ _ (behind_keeps _) (now_has has one) (c.in_ok-write-2.ensures.ok told)) in
    prepared s1 s2 s3 _ None (g.met.D.SectorDevice.shows c.write-2.new.self told) (now_has has both) (c.in_ok-write-2.ensures.ok told) (c.in_ok-sync.ensures.ok told) refl

pub returns-clause-begun : goal.returns-clause-begun
returns-clause-begun g c = λ told.
    let D = g.D.SectorDevice in
    let s0 = D.story c.args.device.now in
    let s1 = D.story c.write.new.self in
    let s2 = D.story c.write-2.new.self in
    let s3 = D.story c.sync.new.self in
    let one : (now s0).writes < (now s1).writes = puts_more s0 s1 0 _ _ (c.in_ok-write.ensures.ok told) in
    let two : (now s1).writes < (now s2).writes = puts_more s1 s2 2 _ _ (c.in_ok-write-2.ensures.ok told) in
    let same : (now s3).writes ≡ (now s2).writes = flushes_same s2 s3 (c.in_ok-sync.ensures.ok told) in
    omega (arith, one, two, same)

pub returns-clause-zeros : goal.returns-clause-zeros
returns-clause-zeros g c = λ told.
    let D = g.D.SectorDevice in
    has_zeros (D.story c.args.device.now) (D.story c.write.new.self) (D.story c.write-2.new.self) (D.story c.sync.new.self) _ is_zeros (c.in_ok-write.ensures.ok told) (c.in_ok-write-2.ensures.ok told) (c.in_ok-sync.ensures.ok told)

-- ---- the device, whatever it tells

pub returns-in_err-write-clause-count : goal.returns-in_err-write-clause-count
returns-in_err-write-clause-count g c = let p = err_from_is_err_and c.from_residual.result c.from_residual.ensures.1 in rw (p.1, p.2) c.in_err-write.ensures.count

pub returns-in_err-write-clause-error : goal.returns-in_err-write-clause-error
returns-in_err-write-clause-error g c = let p = err_from_is_err_and c.from_residual.result c.from_residual.ensures.1 in rw (p.1, p.2) c.in_err-write.ensures.error

pub returns-in_err-write-2-clause-size : goal.returns-in_err-write-2-clause-size
returns-in_err-write-2-clause-size g c = c.write-2.ensures.size ∙ c.write.ensures.size

pub returns-in_err-write-2-clause-count : goal.returns-in_err-write-2-clause-count
returns-in_err-write-2-clause-count g c =
    let p = err_from_is_err_and c.from_residual-in_err-write-2.result c.from_residual-in_err-write-2.ensures.1 in
    rw (p.1, p.2) (subst (λ (n : ℕ). Counts {T = Unit {0}} n (g.D.SectorDevice.failed c.write-2.new.self) (Err c.in_err-write-2.field-0.0)) (c.in_ok-write.ensures.count) c.in_err-write-2.ensures.count)

pub returns-in_err-write-2-clause-error : goal.returns-in_err-write-2-clause-error
returns-in_err-write-2-clause-error g c = let p = err_from_is_err_and c.from_residual-in_err-write-2.result c.from_residual-in_err-write-2.ensures.1 in rw (p.1, p.2) c.in_err-write-2.ensures.error

pub returns-in_err-sync-clause-size : goal.returns-in_err-sync-clause-size
returns-in_err-sync-clause-size g c = c.sync.ensures.size ∙ c.write-2.ensures.size ∙ c.write.ensures.size

pub returns-in_err-sync-clause-count : goal.returns-in_err-sync-clause-count
returns-in_err-sync-clause-count g c =
    let p = err_from_is_err_and c.from_residual-in_err-sync.result c.from_residual-in_err-sync.ensures.1 in
    rw (p.1, p.2) (subst (λ (n : ℕ). Counts {T = Unit {0}} n (g.D.SectorDevice.failed c.sync.new.self) (Err c.in_err-sync.field-0.0)) (c.in_ok-write-2.ensures.count ∙ c.in_ok-write.ensures.count) c.in_err-sync.ensures.count)

pub returns-in_err-sync-clause-error : goal.returns-in_err-sync-clause-error
returns-in_err-sync-clause-error g c = let p = err_from_is_err_and c.from_residual-in_err-sync.result c.from_residual-in_err-sync.ensures.1 in rw (p.1, p.2) c.in_err-sync.ensures.error

pub returns-clause-size : goal.returns-clause-size
returns-clause-size g c = c.sync.ensures.size ∙ c.write-2.ensures.size ∙ c.write.ensures.size

pub returns-clause-count : goal.returns-clause-count
returns-clause-count g c = c.in_ok-sync.ensures.count ∙ c.in_ok-write-2.ensures.count ∙ c.in_ok-write.ensures.count

-- ---- the calls in order

abbrev put_zeros : (old : Story) (n : ℕ) (new : Story) → Puts old n (replicate 512 0) (Some (replicate 512 0)) new → Puts old n zeros (Some zeros) new
put_zeros old n new put = subst (λ (text : List ℕ). Puts old n text (Some text) new) is_zeros put

abbrev failed_zeros : (old : Story) (n : ℕ) (new : Story) → FailsToPut old n (replicate 512 0) new → FailsToPut old n zeros new
failed_zeros old n new failed = subst (λ (text : List ℕ). FailsToPut old n text new) is_zeros failed

pub returns-in_err-write-clause-cut_short : goal.returns-in_err-write-clause-cut_short
returns-in_err-write-clause-cut_short g c = on_err c.from_residual.result (λ told.
    let D = g.D.SectorDevice in
    inl (failed_zeros (D.story c.args.device.now) 0 (D.story c.write.new.self) (c.in_err-write.ensures.err told)))

pub returns-in_err-write-2-clause-cut_short : goal.returns-in_err-write-2-clause-cut_short
returns-in_err-write-2-clause-cut_short g c = on_err c.from_residual-in_err-write-2.result (λ told.
    let D = g.D.SectorDevice in
    let one = put_zeros (D.story c.args.device.now) 0 (D.story c.write.new.self) (c.in_ok-write.ensures.ok told) in
    inr (D.story c.write.new.self, one, inl (failed_zeros (D.story c.write.new.self) 2 (D.story c.write-2.new.self) (c.in_err-write-2.ensures.err told))))

pub returns-in_err-sync-clause-cut_short : goal.returns-in_err-sync-clause-cut_short
returns-in_err-sync-clause-cut_short g c = on_err c.from_residual-in_err-sync.result (λ told.
    let D = g.D.SectorDevice in
    let one = put_zeros (D.story c.args.device.now) 0 (D.story c.write.new.self) (c.in_ok-write.ensures.ok told) in
    let two = put_zeros (D.story c.write.new.self) 2 (D.story c.write-2.new.self) (c.in_ok-write-2.ensures.ok told) in
    inr (D.story c.write.new.self, one, inr (D.story c.write-2.new.self, two, inl (c.in_err-sync.ensures.err told))))

pub returns-clause-order : goal.returns-clause-order
returns-clause-order g c = λ told.
    let D = g.D.SectorDevice in
    let one = put_zeros (D.story c.args.device.now) 0 (D.story c.write.new.self) (c.in_ok-write.ensures.ok told) in
    let two = put_zeros (D.story c.write.new.self) 2 (D.story c.write-2.new.self) (c.in_ok-write-2.ensures.ok told) in
    (D.story c.write.new.self, one, (D.story c.write-2.new.self, two, (D.story c.sync.new.self, c.in_ok-sync.ensures.ok told, refl)))
