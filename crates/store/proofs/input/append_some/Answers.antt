use Rattle.std.proofs.lemmas.Result.{err_from_is_err_and}
use Rattle.store.proofs.Inputs.{given_kept, given_taken}
use Rattle.store.proofs.input.append_some.Goals as goal

pub returns-in_err-count-clause-told : goal.returns-in_err-count-clause-told
returns-in_err-count-clause-told g c =
    let p = err_from_is_err_and c.from_residual.result c.from_residual.ensures.1 in
    rw (p.1, p.2, c.in_err-count.ensures.io) (given_kept _ _ c.args.room c.in_err-count.ensures.kept)

pub returns-in_err-extend_from_slice-clause-told : goal.returns-in_err-extend_from_slice-clause-told
returns-in_err-extend_from_slice-clause-told g c =
    let p = err_from_is_err_and c.from_residual-in_err-extend_from_slice.result c.from_residual-in_err-extend_from_slice.ensures.1 in
    rw (p.1, p.2) (given_taken _ _ c.in_ok-count.count c.args.room _ c.in_ok-count.ensures.some c.if-count-room.false)
