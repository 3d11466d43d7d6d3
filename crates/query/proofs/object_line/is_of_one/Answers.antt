use Rattle.std.proofs.Common.{◌==◌, ◌∙◌, ℕ, ap, sym}
use Rattle.arrow_schema.specs.View.{column_of}
use Rattle.query.specs.Bound.{has_name}
use Rattle.query.proofs.Naming.{count_by-map}
use Rattle.query.proofs.object_line.is_of_one.Goals as goal

pub returns : goal.returns
returns c = ap (λ (n : ℕ). n == 1) (c.count_named.ensures ∙ sym (count_by-map (has_name c.args.name.now) column_of c.args.fields.now))
