use Rattle.std.specs.Ordering.{is_some_and}
use Rattle.std.proofs.Common.{◌∙◌, ap, sym}
use Rattle.query.specs.Bound.{accepts}
use Rattle.query.proofs.bound.meets.Goals as goal

pub returns-in-None : goal.returns-in-None
returns-in-None c = rw c.in-Compares.is (ap (is_some_and (accepts c.in-Compares.operator)) (sym c.in-None.is ∙ c.order.ensures))
