use Rattle.std.proofs.Common.{◌≡◌, Some, sym}
use Rattle.std.proofs.lemmas.Result.{err_from_is_err_and}
use Rattle.flatbuf.specs.Seen.{tables_in, bytes_of, slot_of}
use Rattle.flatbuf.proofs.FirstThing.{first_err}
use Rattle.flatbuf.proofs.table.Table.reference.Goals as goal

pub returns-in_err-distance-in-Some-clause-walked : goal.returns-in_err-distance-in-Some-clause-walked
returns-in_err-distance-in-Some-clause-walked c =
    let p = err_from_is_err_and c.from_residual.result c.from_residual.ensures.1 in
    let here : slot_of c.args.self.now c.args.k ≡ Some c.in-Some.at = sym c.in-Some.ensures.value in
    rw (p.1, p.2, here) (first_err (bytes_of c.args.self.now) _ _ (tables_in c.args.budget.now) _ (c.in_err-distance-in-Some.ensures.walked (tables_in c.args.budget.now)))
