-- What the parts of a selection report.
use Rattle.std.proofs.Common.{◌≡◌, ℕ, List, map, refl, ap, ◌∙◌}
use Rattle.std.specs.Prelude.{Some, Ok, String, string_bytes}
use Rattle.std.specs.Global.{Global}
use Rattle.arrow_schema.specs.declared.types.Field.{Field}
use Rattle.arrow_schema.specs.declared.types.Schema.{Schema}
use Rattle.arrow_schema.specs.Column.{PlainSchema}
use Rattle.arrow_schema.specs.View.{schema_of, column_of}
use Rattle.cells.specs.Cell.{PlainTable}
use Rattle.query.specs.declared.errors.QueryError.{QueryError}
use Rattle.query.specs.declared.errors.QueryError.TheVariants.{UnknownColumn, BadCondition, NotComparable, OutOfMemory}
use Rattle.civil_days.specs.declared.date_form.DateForm.{DateForm}
use Rattle.query.specs.Query.{PlainQuery}
use Rattle.query.specs.Bound.{Bound, bound}
use Rattle.query.specs.Selection.{chosen, all_ok, selected, selection}
use Rattle.query.specs.declared.condition.Condition.{Condition}
use Rattle.query.specs.View.{condition_in, Reports, Unchosen}
use Rattle.query.proofs.Binding.{reports_first}

-- what the columns report, and then the conditions
pub columns_report : (e : QueryError) (t : PlainTable) (q : PlainQuery) → Unchosen e (chosen t.schema.columns q.columns) → Reports e (selection t q)
unfolding selection
columns_report UnknownColumn t q h = rw h refl
columns_report BadCondition t q h = absurd h
columns_report NotComparable t q h = absurd h
columns_report OutOfMemory t q h = tt

pub conditions_report : (e : QueryError) (t : PlainTable) (q : PlainQuery) (ps : List ℕ) → chosen t.schema.columns q.columns ≡ Some ps → Reports e (all_ok (map (bound q.dates t.schema.columns) q.conditions))
    → Reports e (selection t q)
unfolding selection
conditions_report e t q ps some h = reports_first e (all_ok (map (bound q.dates t.schema.columns) q.conditions)) (selection t q) (λ x k. rw (some, k) refl) h

pub selection_is : (t : PlainTable) (q : PlainQuery) (ps : List ℕ) (bs : List Bound) → chosen t.schema.columns q.columns ≡ Some ps → all_ok (map (bound q.dates t.schema.columns) q.conditions) ≡ Ok bs
    → selection t q ≡ Ok (selected ps bs q.limit t)
unfolding selection
selection_is t q ps bs some all = rw (some, all) refl

-- what is chosen and bound by the fields of a table's schema
pub same_choice : (schema : Schema) (t : PlainTable) (fields : List Field) (names columns : List (String Global)) → schema_of schema ≡ t.schema → fields ≡ schema.fields.items → names ≡ columns
    → chosen (map column_of fields) (map string_bytes names) ≡ chosen t.schema.columns (map string_bytes columns)
same_choice schema t fields names columns e f n =
    let cols : map column_of fields ≡ t.schema.columns = ap (map column_of) f ∙ ap (λ (s : PlainSchema). s.columns) e in
    (λ k. chosen (cols k) (map string_bytes (n k)))

pub same_bounds : (form : DateForm) (schema : Schema) (t : PlainTable) (fields : List Field) (some conditions : List Condition) → schema_of schema ≡ t.schema → fields ≡ schema.fields.items → some ≡ conditions
    → all_ok (map (bound form (map column_of fields)) (map condition_in some)) ≡ all_ok (map (bound form t.schema.columns) (map condition_in conditions))
same_bounds form schema t fields some conditions e f n =
    let cols : map column_of fields ≡ t.schema.columns = ap (map column_of) f ∙ ap (λ (s : PlainSchema). s.columns) e in
    (λ k. all_ok (map (bound form (cols k)) (map condition_in (n k))))
