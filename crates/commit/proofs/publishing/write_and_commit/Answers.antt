use Rattle.std.proofs.Common.{◌∙◌, ◌%◌, ℕ, List, [], ◌∷◌, Some, Err, refl, inl, inr, subst, arith}
use Rattle.std.proofs.lemmas.Result.{err_from_is_err_and}
use Rattle.sector_dev.specs.Disk.{now, Counts, Puts, FailsToPut}
use Rattle.sector_dev.specs.laws.Rows.{on_err}
use Rattle.sector_dev.specs.laws.Time.{goes_on, now_has, weaken, passed}
use Rattle.segments.specs.Pieces.{plain_pieces}
use Rattle.segments.specs.Writing.{WritesOnly, runs_of, piece_writes}
use Rattle.commit.specs.declared.sector.Commit.{Commit}
use Rattle.commit.specs.InOrder.{DeviceCall, sync, commit_written, all_written}
use Rattle.commit.proofs.Called.{all_done, one_failed, done_on, fails_on, failed_before}
use Rattle.commit.proofs.Texts.{found_in}
use Rattle.commit.proofs.Moments.{while_written, run_done, put_done, put_failed, sync_done}
use Rattle.commit.proofs.Told.{within}
use Rattle.commit.proofs.publishing.write_and_commit.Goals as goal

pub returns-in_err-write_runs-clause-moments : goal.returns-in_err-write_runs-clause-moments
returns-in_err-write_runs-clause-moments g c = λ told r.
    weaken (while_written c.args.old c.args.new (plain_pieces c.args.pieces.now) (now (g.D.SectorDevice.story c.args.device.now)) c.requires.above c.requires.next r) (c.write_runs.ensures.moments told)

pub returns-in_err-sync-clause-moments : goal.returns-in_err-sync-clause-moments
returns-in_err-sync-clause-moments g c = λ told r.
    let D = g.D.SectorDevice in
    let d0 = now (D.story c.args.device.now) in
    let written = while_written c.args.old c.args.new (plain_pieces c.args.pieces.now) d0 c.requires.above c.requires.next r in
    let w = now_has {P = WritesOnly (runs_of (plain_pieces c.args.pieces.now)) d0} (record { outside = λ n out. refl; begun = inl refl }) (c.write_runs.ensures.moments told) in
    goes_on (weaken written (c.write_runs.ensures.moments told)) (passed _ _ _ (written _ w) (c.in_err-sync.ensures.err told))

pub returns-in_err-write-clause-moments : goal.returns-in_err-write-clause-moments
returns-in_err-write-clause-moments g c = λ told r.
    let D = g.D.SectorDevice in
    let d0 = now (D.story c.args.device.now) in
    let written = while_written c.args.old c.args.new (plain_pieces c.args.pieces.now) d0 c.requires.above c.requires.next r in
    let w = now_has {P = WritesOnly (runs_of (plain_pieces c.args.pieces.now)) d0} (record { outside = λ n out. refl; begun = inl refl }) (c.write_runs.ensures.moments told) in
    let run = run_done c.args.old c.args.new (plain_pieces c.args.pieces.now) d0 c.requires.above c.requires.next r (D.story c.write_runs.new.device) (D.story c.sync.new.self) w (c.in_ok-write_runs.ensures.holds told) (c.in_ok-sync.ensures.ok told) in
    let text = found_in c.args.new c.commit_sector-sector.result c.requires.writable c.commit_sector-sector.ensures in
    goes_on (weaken written (c.write_runs.ensures.moments told)) (goes_on run.0 (put_failed c.args.old c.args.new (plain_pieces c.args.pieces.now) d0 c.requires.above c.requires.next r _ text _ _ run.1 (c.in_err-write.ensures.err told)))

pub returns-in_err-sync-2-clause-moments : goal.returns-in_err-sync-2-clause-moments
returns-in_err-sync-2-clause-moments g c = λ told r.
    let D = g.D.SectorDevice in
    let d0 = now (D.story c.args.device.now) in
    let written = while_written c.args.old c.args.new (plain_pieces c.args.pieces.now) d0 c.requires.above c.requires.next r in
    let w = now_has {P = WritesOnly (runs_of (plain_pieces c.args.pieces.now)) d0} (record { outside = λ n out. refl; begun = inl refl }) (c.write_runs.ensures.moments told) in
    let run = run_done c.args.old c.args.new (plain_pieces c.args.pieces.now) d0 c.requires.above c.requires.next r (D.story c.write_runs.new.device) (D.story c.sync.new.self) w (c.in_ok-write_runs.ensures.holds told) (c.in_ok-sync.ensures.ok told) in
    let text = found_in c.args.new c.commit_sector-sector.result c.requires.writable c.commit_sector-sector.ensures in
    let put = put_done c.args.old c.args.new (plain_pieces c.args.pieces.now) d0 c.requires.above c.requires.next r _ text (D.story c.sync.new.self) (D.story c.write.new.self) _ run.1 (c.in_ok-write.ensures.ok told) in
    let so_far = goes_on (weaken written (c.write_runs.ensures.moments told)) (goes_on run.0 put) in
    goes_on so_far (passed _ _ _ (now_has (written d0 (record { outside = λ n out. refl; begun = inl refl })) so_far) (c.in_err-sync-2.ensures.err told))

pub returns-clause-moments : goal.returns-clause-moments
returns-clause-moments g c = λ told r.
    let D = g.D.SectorDevice in
    let d0 = now (D.story c.args.device.now) in
    let written = while_written c.args.old c.args.new (plain_pieces c.args.pieces.now) d0 c.requires.above c.requires.next r in
    let w = now_has {P = WritesOnly (runs_of (plain_pieces c.args.pieces.now)) d0} (record { outside = λ n out. refl; begun = inl refl }) (c.write_runs.ensures.moments told) in
    let run = run_done c.args.old c.args.new (plain_pieces c.args.pieces.now) d0 c.requires.above c.requires.next r (D.story c.write_runs.new.device) (D.story c.sync.new.self) w (c.in_ok-write_runs.ensures.holds told) (c.in_ok-sync.ensures.ok told) in
    let text = found_in c.args.new c.commit_sector-sector.result c.requires.writable c.commit_sector-sector.ensures in
    let put = put_done c.args.old c.args.new (plain_pieces c.args.pieces.now) d0 c.requires.above c.requires.next r _ text (D.story c.sync.new.self) (D.story c.write.new.self) _ run.1 (c.in_ok-write.ensures.ok told) in
    let last = sync_done c.args.old c.args.new (plain_pieces c.args.pieces.now) d0 c.requires.above c.requires.next r _ text (D.story c.sync.new.self) (D.story c.write.new.self) (D.story c.sync-2.new.self) run.1 (c.in_ok-write.ensures.ok told) (c.in_ok-sync-2.ensures.ok told) in
    goes_on (weaken written (c.write_runs.ensures.moments told)) (goes_on run.0 (goes_on put last.0))

pub returns-clause-published : goal.returns-clause-published
returns-clause-published g c = λ told r.
    let D = g.D.SectorDevice in
    let d0 = now (D.story c.args.device.now) in
    let w = now_has {P = WritesOnly (runs_of (plain_pieces c.args.pieces.now)) d0} (record { outside = λ n out. refl; begun = inl refl }) (c.write_runs.ensures.moments told) in
    let run = run_done c.args.old c.args.new (plain_pieces c.args.pieces.now) d0 c.requires.above c.requires.next r (D.story c.write_runs.new.device) (D.story c.sync.new.self) w (c.in_ok-write_runs.ensures.holds told) (c.in_ok-sync.ensures.ok told) in
    let text = found_in c.args.new c.commit_sector-sector.result c.requires.writable c.commit_sector-sector.ensures in
    (sync_done c.args.old c.args.new (plain_pieces c.args.pieces.now) d0 c.requires.above c.requires.next r _ text (D.story c.sync.new.self) (D.story c.write.new.self) (D.story c.sync-2.new.self) run.1 (c.in_ok-write.ensures.ok told) (c.in_ok-sync-2.ensures.ok told)).1

-- ---- the sizes of a store

pub write_runs-requires-clause-countable : goal.write_runs-requires-clause-countable
write_runs-requires-clause-countable g c = omega (arith, (within (g.D.SectorDevice.size c.args.device.now) c.requires.limits).1)

pub write-requires : goal.write-requires
write-requires g c = omega (arith, (within (g.D.SectorDevice.size c.args.device.now) c.requires.limits).0, c.write_runs.ensures.size, c.sync.ensures.size)

-- ---- the device, whatever it tells

pub returns-in_err-write_runs-clause-count : goal.returns-in_err-write_runs-clause-count
returns-in_err-write_runs-clause-count g c = let p = err_from_is_err_and c.from_residual.result c.from_residual.ensures.1 in rw (p.1, p.2) c.in_err-write_runs.ensures.count

pub returns-in_err-write_runs-clause-error : goal.returns-in_err-write_runs-clause-error
returns-in_err-write_runs-clause-error g c = let p = err_from_is_err_and c.from_residual.result c.from_residual.ensures.1 in rw (p.1, p.2) c.in_err-write_runs.ensures.error

pub returns-in_err-sync-clause-size : goal.returns-in_err-sync-clause-size
returns-in_err-sync-clause-size g c = c.sync.ensures.size ∙ c.write_runs.ensures.size

pub returns-in_err-sync-clause-count : goal.returns-in_err-sync-clause-count
returns-in_err-sync-clause-count g c =
    let D = g.D.SectorDevice in
    let p = err_from_is_err_and c.from_residual-in_err-sync.result c.from_residual-in_err-sync.ensures.1 in
    rw (p.1, p.2) (subst (λ (n : ℕ). Counts {T = Unit {0}} n (D.failed c.sync.new.self) (Err c.in_err-sync.field-0.0)) c.in_ok-write_runs.ensures.count c.in_err-sync.ensures.count)

pub returns-in_err-sync-clause-error : goal.returns-in_err-sync-clause-error
returns-in_err-sync-clause-error g c = let p = err_from_is_err_and c.from_residual-in_err-sync.result c.from_residual-in_err-sync.ensures.1 in rw (p.1, p.2) c.in_err-sync.ensures.error

pub returns-in_err-write-clause-size : goal.returns-in_err-write-clause-size
returns-in_err-write-clause-size g c = c.write.ensures.size ∙ c.sync.ensures.size ∙ c.write_runs.ensures.size

pub returns-in_err-write-clause-count : goal.returns-in_err-write-clause-count
returns-in_err-write-clause-count g c =
    let D = g.D.SectorDevice in
    let p = err_from_is_err_and c.from_residual-in_err-write.result c.from_residual-in_err-write.ensures.1 in
    rw (p.1, p.2)
    (subst (λ (n : ℕ). Counts {T = Unit {0}} n (D.failed c.write.new.self) (Err c.in_err-write.field-0.0)) (c.in_ok-sync.ensures.count ∙ c.in_ok-write_runs.ensures.count) c.in_err-write.ensures.count)

pub returns-in_err-write-clause-error : goal.returns-in_err-write-clause-error
returns-in_err-write-clause-error g c = let p = err_from_is_err_and c.from_residual-in_err-write.result c.from_residual-in_err-write.ensures.1 in rw (p.1, p.2) c.in_err-write.ensures.error

pub returns-in_err-sync-2-clause-size : goal.returns-in_err-sync-2-clause-size
returns-in_err-sync-2-clause-size g c = c.sync-2.ensures.size ∙ c.write.ensures.size ∙ c.sync.ensures.size ∙ c.write_runs.ensures.size

pub returns-in_err-sync-2-clause-count : goal.returns-in_err-sync-2-clause-count
returns-in_err-sync-2-clause-count g c =
    let D = g.D.SectorDevice in
    let p = err_from_is_err_and c.from_residual-in_err-sync-2.result c.from_residual-in_err-sync-2.ensures.1 in
    rw (p.1, p.2)
    (subst (λ (n : ℕ). Counts {T = Unit {0}} n (D.failed c.sync-2.new.self) (Err c.in_err-sync-2.field-0.0)) (c.in_ok-write.ensures.count ∙ c.in_ok-sync.ensures.count ∙ c.in_ok-write_runs.ensures.count)
    c.in_err-sync-2.ensures.count)

pub returns-in_err-sync-2-clause-error : goal.returns-in_err-sync-2-clause-error
returns-in_err-sync-2-clause-error g c = let p = err_from_is_err_and c.from_residual-in_err-sync-2.result c.from_residual-in_err-sync-2.ensures.1 in rw (p.1, p.2) c.in_err-sync-2.ensures.error

pub returns-clause-size : goal.returns-clause-size
returns-clause-size g c = c.sync-2.ensures.size ∙ c.write.ensures.size ∙ c.sync.ensures.size ∙ c.write_runs.ensures.size

pub returns-clause-count : goal.returns-clause-count
returns-clause-count g c = c.in_ok-sync-2.ensures.count ∙ c.in_ok-write.ensures.count ∙ c.in_ok-sync.ensures.count ∙ c.in_ok-write_runs.ensures.count

-- ---- the calls in order

-- the calls after the pieces
abbrev committing : Commit → List DeviceCall
committing new = sync ∷ commit_written new ∷ sync ∷ []

pub returns-in_err-write_runs-clause-cut_short : goal.returns-in_err-write_runs-clause-cut_short
returns-in_err-write_runs-clause-cut_short g c = on_err c.from_residual.result (λ told.
    let ws = piece_writes (plain_pieces c.args.pieces.now) in
    failed_before (all_written ws) (committing c.args.new) _ _ (one_failed ws _ _ (c.in_err-write_runs.ensures.cut_short told)))

pub returns-in_err-sync-clause-cut_short : goal.returns-in_err-sync-clause-cut_short
returns-in_err-sync-clause-cut_short g c = on_err c.from_residual-in_err-sync.result (λ told.
    let ws = piece_writes (plain_pieces c.args.pieces.now) in
    fails_on (all_written ws) (committing c.args.new) _ _ _ (all_done ws _ _ (c.in_ok-write_runs.ensures.order told)) (inl (c.in_err-sync.ensures.err told)))

pub returns-in_err-write-clause-cut_short : goal.returns-in_err-write-clause-cut_short
returns-in_err-write-clause-cut_short g c = on_err c.from_residual-in_err-write.result (λ told.
    let D = g.D.SectorDevice in
    let ws = piece_writes (plain_pieces c.args.pieces.now) in
    let failed = subst (λ (text : List ℕ). FailsToPut (D.story c.sync.new.self) (c.args.new.epoch % 2) text (D.story c.write.new.self)) c.commit_sector-sector.ensures (c.in_err-write.ensures.err told) in
    fails_on (all_written ws) (committing c.args.new) _ _ _ (all_done ws _ _ (c.in_ok-write_runs.ensures.order told))
    (inr (D.story c.sync.new.self, c.in_ok-sync.ensures.ok told, inl failed)))

pub returns-in_err-sync-2-clause-cut_short : goal.returns-in_err-sync-2-clause-cut_short
returns-in_err-sync-2-clause-cut_short g c = on_err c.from_residual-in_err-sync-2.result (λ told.
    let D = g.D.SectorDevice in
    let ws = piece_writes (plain_pieces c.args.pieces.now) in
    let put = subst (λ (text : List ℕ). Puts (D.story c.sync.new.self) (c.args.new.epoch % 2) text (Some text) (D.story c.write.new.self)) c.commit_sector-sector.ensures (c.in_ok-write.ensures.ok told) in
    fails_on (all_written ws) (committing c.args.new) _ _ _ (all_done ws _ _ (c.in_ok-write_runs.ensures.order told))
    (inr (D.story c.sync.new.self, c.in_ok-sync.ensures.ok told, inr (D.story c.write.new.self, put, inl (c.in_err-sync-2.ensures.err told)))))

pub returns-clause-order : goal.returns-clause-order
returns-clause-order g c = λ told.
    let D = g.D.SectorDevice in
    let ws = piece_writes (plain_pieces c.args.pieces.now) in
    let put = subst (λ (text : List ℕ). Puts (D.story c.sync.new.self) (c.args.new.epoch % 2) text (Some text) (D.story c.write.new.self)) c.commit_sector-sector.ensures (c.in_ok-write.ensures.ok told) in
    done_on (all_written ws) (committing c.args.new) _ _ _ (all_done ws _ _ (c.in_ok-write_runs.ensures.order told))
    (D.story c.sync.new.self, c.in_ok-sync.ensures.ok told, (D.story c.write.new.self, put, (D.story c.sync-2.new.self, c.in_ok-sync-2.ensures.ok told, refl)))
