use Rattle.std.specs.Prelude.{option_map, if◌then◌else◌}
use Rattle.std.proofs.Common.{◌≡◌, ◌∙◌, ℕ, Bool, true, false, List, Err, ap, sym}
use Rattle.arrow_schema.specs.Column.{Kind}
use Rattle.arrow_schema.specs.View.{kind_of}
use Rattle.cells.specs.View.{cell}
use Rattle.query.specs.declared.operator.Operator.{Operator}
use Rattle.query.specs.Bound.{against, predicate_of, not_comparable}
use Rattle.query.specs.Literal.{is_comparable, literal_of}
use Rattle.civil_days.specs.declared.date_form.DateForm.{DateForm}
use Rattle.query.specs.Query.{comparison}
use Rattle.query.proofs.bound.predicate_of.Goals as goal

compared : (form : DateForm) (kind : Kind) (o : Operator) (text : List ℕ) (b : Bool) → is_comparable kind ≡ b → predicate_of form kind (comparison o text) ≡ (if b then against o (literal_of form kind text) else Err not_comparable)
compared form kind o text b e = ap (λ (x : Bool). if x then against o (literal_of form kind text) else Err not_comparable) e

pub returns-then-not-is_comparable-clause-refused : goal.returns-then-not-is_comparable-clause-refused
returns-then-not-is_comparable-clause-refused c =
    rw c.in-Compared.is (compared c.args.dates (kind_of c.args.data_type.now) c.in-Compared.operator _ false (sym c.is_comparable.ensures ∙ c.if-not-is_comparable.true))

pub returns-in-None-clause-refused : goal.returns-in-None-clause-refused
returns-in-None-clause-refused c =
    let literal = rw c.as_str.ensures.value at c.in_ok-literal_of-in-Compared.ensures in
    rw c.in-Compared.is
    (compared c.args.dates (kind_of c.args.data_type.now) c.in-Compared.operator _ true (sym c.is_comparable.ensures ∙ c.if-not-is_comparable.false)
    ∙ ap (against c.in-Compared.operator) (sym literal ∙ ap (option_map cell) c.in-None.is))

pub returns-in-Some-clause-ok : goal.returns-in-Some-clause-ok
returns-in-Some-clause-ok c =
    let literal = rw c.as_str.ensures.value at c.in_ok-literal_of-in-Compared.ensures in
    rw c.in-Compared.is
    (compared c.args.dates (kind_of c.args.data_type.now) c.in-Compared.operator _ true (sym c.is_comparable.ensures ∙ c.if-not-is_comparable.false)
    ∙ ap (against c.in-Compared.operator) (sym literal ∙ ap (option_map cell) c.in-Some.is))
