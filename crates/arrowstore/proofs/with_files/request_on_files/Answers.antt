use Rattle.std.proofs.Common.{inl, inr}
use Rattle.std.proofs.lemmas.Result.{err_from_is_err_and}
use Rattle.arrowstore.proofs.with_files.request_on_files.Goals as goal

pub returns-in_err-request-clause-taken : goal.returns-in_err-request-clause-taken
returns-in_err-request-clause-taken g c =
    let p = err_from_is_err_and c.from_residual.result c.from_residual.ensures.1 in
    rw (p.1, p.2) (λ right. inl (c.in_err-request.ensures.taken right))

pub returns-in_err-mistake-clause-taken : goal.returns-in_err-mistake-clause-taken
returns-in_err-mistake-clause-taken g c =
    let p = err_from_is_err_and c.from_residual-in_err-mistake.result c.from_residual-in_err-mistake.ensures.1 in
    let e = c.in_ok-request.ensures in
    rw (p.1, p.2) (λ _. inr (c.in_ok-request.request, (e.asked c.requires, e.named c.requires, e.read), c.lacks_device.ensures c.if-lacks_device.true))

pub returns-then-lacks_device-clause-taken : goal.returns-then-lacks_device-clause-taken
returns-then-lacks_device-clause-taken g c = λ _.
    let e = c.in_ok-request.ensures in
    inr (c.in_ok-request.request, (e.asked c.requires, e.named c.requires, e.read), c.lacks_device.ensures c.if-lacks_device.true)

pub returns-clause-asks : goal.returns-clause-asks
returns-clause-asks g c = let e = c.in_ok-request.ensures in (e.asked c.requires, e.named c.requires, e.read)
