use Rattle.std.proofs.Common.{[], get_or, take, subst, arith, take_all}
use Rattle.std.proofs.lemmas.List.{take_more}
use Rattle.table_archive.specs.Wanted.{Knows}
use Rattle.table_archive.proofs.KnownLemmas.{known_next}
use Rattle.table_archive.proofs.wanted.WantedDigests.beside.Goals as goal

pub loop-digest-preserved : goal.loop-digest-preserved
loop-digest-preserved c =
    let had = c.args.had.now in
    let place = c.loop-digest.digest-index in
    known_next _ (take place had) _ (get_or had place []) (take_more had place [] c.loop-digest-test.true)
    (c.in_ok-take.ensures.known (take place had) c.loop-digest.invariant)

pub returns : goal.returns
returns c =
    subst (Knows c.loop-digest.wanted) (take_all c.loop-digest.digest-index c.args.had.now (omega (arith, c.loop-digest-test.false))) c.loop-digest.invariant
