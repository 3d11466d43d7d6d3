use Rattle.dictionary.proofs.Numbers.{place_found}
use Rattle.dictionary.proofs.current.place_of.Goals as goal

pub returns-then-current-id : goal.returns-then-current-id
returns-then-current-id c = place_found _ _ _ _ c.loop-i-test.true c.if-current-id.true c.loop-i.invariant.same c.loop-i.invariant.kept
