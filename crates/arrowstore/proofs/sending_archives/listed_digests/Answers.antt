use Rattle.std.proofs.Common.{inl, inr}
use Rattle.std.proofs.lemmas.Result.{err_from_is_err_and}
use Rattle.arrowstore.proofs.sending_archives.listed_digests.Goals as goal

pub returns-in_err-text-clause-told : goal.returns-in_err-text-clause-told
returns-in_err-text-clause-told g c =
    let p = err_from_is_err_and c.from_residual.result c.from_residual.ensures.1 in
    rw (p.1, p.2) (inl c.in_err-text.ensures.told)

pub returns-in_err-digests-clause-told : goal.returns-in_err-digests-clause-told
returns-in_err-digests-clause-told g c =
    let p = err_from_is_err_and c.from_residual-in_err-digests.result c.from_residual-in_err-digests.ensures.1 in
    rw (p.1, p.2) (inr (c.in_ok-text.text.items, c.in_ok-text.ensures.read, rw c.deref.ensures.value at c.in_err-digests.ensures.told))

pub returns-clause-read : goal.returns-clause-read
returns-clause-read g c = (c.in_ok-text.text.items, c.in_ok-text.ensures.read, rw c.deref.ensures.value at c.in_ok-digests.ensures.listed)
