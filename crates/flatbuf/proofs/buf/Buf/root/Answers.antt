use Rattle.std.proofs.lemmas.Result.{err_from_is_err_and}
use Rattle.flatbuf.specs.Seen.{tables_in, buffer_bytes}
use Rattle.flatbuf.specs.Walk.{root_things}
use Rattle.flatbuf.proofs.FirstThing.{first_err}
use Rattle.flatbuf.proofs.buf.Buf.root.Goals as goal

pub returns-in_err-at-clause-walked : goal.returns-in_err-at-clause-walked
unfolding root_things
returns-in_err-at-clause-walked c =
    let p = err_from_is_err_and c.from_residual.result c.from_residual.ensures.1 in
    rw (p.1, p.2) (first_err (buffer_bytes c.args.self.now) _ _ (tables_in c.args.budget.now) _ (c.in_err-at.ensures.walked (tables_in c.args.budget.now)))
