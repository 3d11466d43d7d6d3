use Rattle.std.proofs.Common.{sym, map, ◌∙◌}
use Rattle.std.proofs.lemmas.Result.{err_from_is_err_and}
use Rattle.query.specs.View.{query_in}
use Rattle.query.specs.inner.BoundView.{bound_in}
use Rattle.query.proofs.SelectionReports.{same_choice, same_bounds, columns_report, conditions_report, selection_is}
use Rattle.query.proofs.selecting.bind_query.Goals as goal

pub returns-in_err-places-clause-refused : goal.returns-in_err-places-clause-refused
returns-in_err-places-clause-refused c =
    let p = err_from_is_err_and c.from_residual.result c.from_residual.ensures.1 in
    rw (p.1, p.2)
    (λ t same.
    let choice = same_choice c.args.schema.now t c.deref.result.now c.deref-2.result.now c.args.query.now.columns.items same c.deref.ensures.value c.deref-2.ensures.value in
    columns_report _ t (query_in c.args.query.now) (rw choice at c.in_err-places.ensures.refused))

pub returns-in_err-bounds-clause-refused : goal.returns-in_err-bounds-clause-refused
returns-in_err-bounds-clause-refused c =
    let p = err_from_is_err_and c.from_residual-in_err-bounds.result c.from_residual-in_err-bounds.ensures.1 in
    rw (p.1, p.2)
    (λ t same.
    let choice = same_choice c.args.schema.now t c.deref.result.now c.deref-2.result.now c.args.query.now.columns.items same c.deref.ensures.value c.deref-2.ensures.value in
    let bounds = same_bounds c.args.query.now.dates c.args.schema.now t c.deref-3.result.now c.deref-4.result.now c.args.query.now.conditions.items same c.deref-3.ensures.value c.deref-4.ensures.value in
    conditions_report _ t (query_in c.args.query.now) c.in_ok-places.places.items (sym choice ∙ c.in_ok-places.ensures.ok) (rw bounds at c.in_err-bounds.ensures.refused))

pub returns-clause-ok : goal.returns-clause-ok
returns-clause-ok c t same =
    let choice = same_choice c.args.schema.now t c.deref.result.now c.deref-2.result.now c.args.query.now.columns.items same c.deref.ensures.value c.deref-2.ensures.value in
    let bounds = same_bounds c.args.query.now.dates c.args.schema.now t c.deref-3.result.now c.deref-4.result.now c.args.query.now.conditions.items same c.deref-3.ensures.value c.deref-4.ensures.value in
    selection_is t (query_in c.args.query.now) c.in_ok-places.places.items (map bound_in c.in_ok-bounds.bounds.items) (sym choice ∙ c.in_ok-places.ensures.ok)
    (sym bounds ∙ c.in_ok-bounds.ensures.ok)
