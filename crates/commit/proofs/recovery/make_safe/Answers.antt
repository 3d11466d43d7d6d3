use Rattle.std.proofs.Common.{refl}
use Rattle.std.proofs.lemmas.Result.{err_from_is_err_and}
use Rattle.commit.proofs.Told.{failed_count}
use Rattle.commit.proofs.recovery.make_safe.Goals as goal

pub returns-in_err-sync-clause-count : goal.returns-in_err-sync-clause-count
returns-in_err-sync-clause-count g c =
    let p = err_from_is_err_and c.from_residual.result c.from_residual.ensures.1 in
    rw (p.1, p.2) (failed_count c.in_err-sync.field-0.0 _ _ c.in_err-sync.ensures.error c.in_err-sync.ensures.count)

pub returns-in_err-sync-clause-error : goal.returns-in_err-sync-clause-error
returns-in_err-sync-clause-error g c = let p = err_from_is_err_and c.from_residual.result c.from_residual.ensures.1 in rw (p.1, p.2) refl

pub returns-in_err-sync-clause-kept : goal.returns-in_err-sync-clause-kept
returns-in_err-sync-clause-kept g c = rw (err_from_is_err_and c.from_residual.result c.from_residual.ensures.1).1 tt

pub returns-in_err-sync-clause-synced : goal.returns-in_err-sync-clause-synced
returns-in_err-sync-clause-synced g c = rw (err_from_is_err_and c.from_residual.result c.from_residual.ensures.1).1 tt

pub returns-in_err-sync-clause-err : goal.returns-in_err-sync-clause-err
returns-in_err-sync-clause-err g c = rw (err_from_is_err_and c.from_residual.result c.from_residual.ensures.1).1 c.in_err-sync.ensures.err

pub returns-clause-count : goal.returns-clause-count
returns-clause-count g c = c.in_ok-sync.ensures.count

pub returns-clause-synced : goal.returns-clause-synced
returns-clause-synced g c = c.in_ok-sync.ensures.ok
