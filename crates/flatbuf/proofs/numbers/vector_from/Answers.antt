use Rattle.std.proofs.Common.{◌≡◌, ◌+◌, ◌∙◌, ap}
use Rattle.std.proofs.lemmas.Result.{err_from_is_err_and}
use Rattle.flatbuf.specs.Lookup.{target}
use Rattle.flatbuf.proofs.FirstThing.{first_err, first_ok}
use Rattle.flatbuf.proofs.numbers.vector_from.Goals as goal

pub returns-in_err-distance-clause-walked : goal.returns-in_err-distance-clause-walked
returns-in_err-distance-clause-walked c = λ n.
    let p = err_from_is_err_and c.from_residual.result c.from_residual.ensures.1 in
    rw (p.1, p.2) (first_err c.args.bytes.now _ _ n _ (c.in_err-distance.ensures.walked n))

pub returns-in_err-count-clause-walked : goal.returns-in_err-count-clause-walked
unfolding target
returns-in_err-count-clause-walked c = λ n.
    let p = err_from_is_err_and c.from_residual-in_err-count.result c.from_residual-in_err-count.ensures.1 in
    let here : c.args.at + c.in_ok-distance.distance ≡ target c.args.bytes.now c.args.at = ap (λ x. c.args.at + x) c.in_ok-distance.ensures.value in
    rw (p.1, p.2) (first_ok c.args.bytes.now _ _ n n (c.in_ok-distance.ensures.walked n) ∙ first_err c.args.bytes.now _ _ n _ (rw here at (c.in_err-count.ensures.walked n)))
