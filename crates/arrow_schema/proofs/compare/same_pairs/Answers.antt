use Rattle.std.proofs.Common.{◌∙◌}
use Rattle.arrow_schema.proofs.Compared.{pairs-map}
use Rattle.arrow_schema.proofs.compare.same_pairs.Goals as goal

pub returns : goal.returns
returns c = c.eq.ensures ∙ pairs-map c.args.a.now c.args.b.now
