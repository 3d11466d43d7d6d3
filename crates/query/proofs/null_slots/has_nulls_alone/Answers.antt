use Rattle.std.proofs.Common.{sym, ◌∙◌}
use Rattle.std.proofs.lemmas.Bool.{not-true}
use Rattle.query.proofs.NullTests.{field_nulls}
use Rattle.query.proofs.null_slots.has_nulls_alone.Goals as goal

pub returns-in-None : goal.returns-in-None
returns-in-None c = λ e. field_nulls c.args.field.now c.in-None.is (sym c.is_of_nulls.ensures ∙ not-true _ e)
