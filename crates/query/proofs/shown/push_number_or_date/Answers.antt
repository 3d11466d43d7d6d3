use mir.Val.{SFits}
use Rattle.std.specs.Prelude.{None}
use Rattle.std.specs.Int.{w128}
use Rattle.std.proofs.Common.{◌≡◌, ◌∙◌, sym, rules}
use Rattle.std.proofs.lemmas.Int.{to_z-of_z}
use Rattle.arrow_schema.specs.View.{kind_of}
use Rattle.civil_days.specs.Typed.{date_column}
use Rattle.query.specs.Line.{json_of}
use Rattle.query.proofs.shown.push_number_or_date.Goals as goal

pub returns-in-None : goal.returns-in-None
unfolding json_of
returns-in-None c =
    let none : date_column (kind_of c.args.data_type.now) ≡ None = sym c.date_column_of.ensures ∙ c.in-None.is in
    let fits : SFits w128 c.args.n = search rules in
    rw none (rw (to_z-of_z w128 c.args.n fits) at c.push_number.ensures)
