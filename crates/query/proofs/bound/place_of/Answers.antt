use Rattle.std.proofs.Common.{sym, ◌∙◌}
use Rattle.query.proofs.Naming.{place_once, place_not}
use Rattle.query.proofs.bound.place_of.Goals as goal

pub returns-then-count_named-eq1 : goal.returns-then-count_named-eq1
returns-then-count_named-eq1 c = c.first_named.ensures ∙ sym (place_once _ _ (sym c.count_named.ensures ∙ c.if-count_named-eq1.true))

pub returns-else-count_named-eq1 : goal.returns-else-count_named-eq1
returns-else-count_named-eq1 c = sym (place_not _ _ (λ e. c.if-count_named-eq1.false (c.count_named.ensures ∙ e)))
