use Rattle.std.proofs.Common.{arith}
use Rattle.std.proofs.lemmas.List.{get_or_default}
use Rattle.table_archive.proofs.NamedLemmas.{same_next}
use Rattle.table_archive.proofs.named.first_other.Goals as goal

pub loop-place-preserved : goal.loop-place-preserved
loop-place-preserved c =
    let names = c.args.names.now in
    let found = c.args.found.now in
    let i = c.loop-place.place in
    let lt = c.loop-place-test.true in
    same_next names found i _ _ lt (omega (arith, lt, c.requires)) (get_or_default names i _ _ lt) (get_or_default found i _ _ (omega (arith, lt, c.requires)))
    (c.is_same.ensures c.if-not-is_same.false) c.loop-place.invariant
