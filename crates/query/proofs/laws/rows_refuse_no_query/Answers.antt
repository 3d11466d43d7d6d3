use Rattle.std.proofs.Common.{◌≡◌, ℕ, List, Option, Some, None, Result, Ok, Err, map, sym, ◌∙◌}
use Rattle.cells.specs.Cell.{PlainTable}
use Rattle.arrow_schema.specs.Column.{PlainSchema}
use Rattle.query.specs.Query.{PlainQuery}
use Rattle.query.specs.Bound.{SelectionRefusal, Bound, bound}
use Rattle.query.specs.Selection.{chosen, all_ok, selected_where, selection}
use Rattle.query.proofs.laws.rows_refuse_no_query.Goals as goal

refused_alike : (places : Option (List ℕ)) (bounds : Result (List Bound) SelectionRefusal) (most : Option ℕ) (t u : PlainTable) (r : SelectionRefusal) → selected_where places bounds most t ≡ Err r → selected_where places bounds most u ≡ Err r
refused_alike None bounds most t u r h = h
refused_alike (Some places) (Err e) most t u r h = h
refused_alike (Some places) (Ok bounds) most t u r h = absurd (cc h)

refused_by_schema : (t u : PlainTable) (q : PlainQuery) (r : SelectionRefusal) → t.schema ≡ u.schema → selection t q ≡ Err r → selection u q ≡ Err r
unfolding selection
refused_by_schema t u q r same h =
    let places : PlainSchema → Option (List ℕ) = λ s. chosen s.columns q.columns in
    let bounds : PlainSchema → Result (List Bound) SelectionRefusal = λ s. all_ok (map (bound q.dates s.columns) q.conditions) in
    sym (λ i. selected_where (places (same i)) (bounds (same i)) q.limit u) ∙ refused_alike (places t.schema) (bounds t.schema) q.limit t u r h

pub returns : goal.returns
returns c = refused_by_schema
