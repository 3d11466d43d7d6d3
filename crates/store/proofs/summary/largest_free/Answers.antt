use Rattle.std.proofs.Common.{◌-◌, ◌/◌, ℕ, None, subst, arith}
use Rattle.segments.specs.Runs.{IsLowest}
use Rattle.segments.specs.Usages.{IsUsedIn}
use Rattle.store.proofs.Fitted.{between_none}
use Rattle.store.proofs.summary.largest_free.Goals as goal

pub loop-some-preserved : goal.loop-some-preserved
loop-some-preserved c =
    let some = c.loop-some.some in
    let most = c.loop-some.most in
    let count = most - (most - some) / 2 in
    let used = IsUsedIn c.args.map.now.entries in
    between_none c.args.sectors used some most count (count - 1) c.loop-some.invariant (omega (arith, c.loop-some-test.true)) (omega arith) (omega (arith, c.loop-some-test.true))
    (subst (λ (n : ℕ). IsLowest n used count None) c.requires c.in-None.ensures)
