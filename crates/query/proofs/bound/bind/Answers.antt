use Rattle.std.proofs.Common.{sym, ap, map, ◌∙◌}
use Rattle.std.specs.Prelude.{option_map}
use Rattle.std.proofs.lemmas.Result.{err_from_is_err_and}
use Rattle.arrow_schema.specs.View.{column_of}
use Rattle.query.specs.Bound.{bound_at}
use Rattle.query.specs.View.{condition_in}
use Rattle.query.proofs.Naming.{bound_is, bound_reports}
use Rattle.query.proofs.bound.bind.Goals as goal

pub returns-in_err-predicate-clause-refused : goal.returns-in_err-predicate-clause-refused
returns-in_err-predicate-clause-refused c =
    let found = rw c.as_str.ensures.value at (sym c.place_of.ensures ∙ c.in-Some.is) in
    let there = sym c.field_at.ensures ∙ ap (option_map (λ f. column_of f.now)) c.in-Some-field_at.is in
    let p = err_from_is_err_and c.from_residual.result c.from_residual.ensures.1 in
    rw (p.1, p.2) (bound_reports c.args.dates (map column_of c.args.fields.now) (condition_in c.args.condition.now) c.in-Some.place c.in-Some-field_at.field.now found there _ c.in_err-predicate.ensures.refused)

pub returns-clause-ok : goal.returns-clause-ok
returns-clause-ok c =
    let found = rw c.as_str.ensures.value at (sym c.place_of.ensures ∙ c.in-Some.is) in
    let there = sym c.field_at.ensures ∙ ap (option_map (λ f. column_of f.now)) c.in-Some-field_at.is in
    bound_is c.args.dates (map column_of c.args.fields.now) (condition_in c.args.condition.now) c.in-Some.place c.in-Some-field_at.field.now found there ∙ ap (bound_at c.in-Some.place) c.in_ok-predicate.ensures.ok
