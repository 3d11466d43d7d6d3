use Rattle.std.proofs.Common.{◌≡◌, List, true, false, map, sym, ap, ◌∙◌}
use Rattle.std.proofs.lemmas.Result.{err_from_is_err_and}
use Rattle.arrow_schema.specs.Column.{Column, PlainSchema}
use Rattle.arrow_schema.specs.View.{column_of}
use Rattle.query.specs.BoundQuery.{bound_query_in, rows_selected, selected_by}
use Rattle.query.specs.ObjectLine.{lines_text}
use Rattle.query.specs.Printed.{is_printable}
use Rattle.query.specs.Selection.{pick}
use Rattle.query.specs.View.{query_in}
use Rattle.selection.proofs.Printable.{printed_whole, printed_twice, printed_refused}
use Rattle.selection.proofs.line_printer.LinePrinter.new.Goals as goal
use Rattle.selection.proofs.line_printer.LinePrinter.new.Goals.{In_ok-fields}

-- the fields are those of the columns asked for
columns : (c : In_ok-fields) → pick c.in_ok-bound.bound.places.items (map column_of c.args.schema.now.fields.items) ≡ map column_of c.in_ok-fields.fields.items
columns c = (λ k. pick (sym c.deref-2.ensures.value k) (map column_of (sym c.deref.ensures.value k))) ∙ sym c.in_ok-fields.ensures

pub returns-clause-lines : goal.returns-clause-lines
returns-clause-lines c t same =
    let q = bound_query_in c.in_ok-bound.bound in
    let picked : pick q.places t.schema.columns ≡ map column_of c.in_ok-fields.fields.items =
    ap (λ (s : PlainSchema). pick q.places s.columns) (sym same) ∙ columns (goal.at.returns-clause-lines c).In_ok-fields in
    let can : is_printable c.args.form (selected_by q t) ≡ true = sym (c.can_be_printed.ensures (selected_by q t) (picked ∙ ap (map column_of) (sym c.deref-3.ensures.value))) ∙ c.if-not-can_be_printed.false in (
      selected_by q t,
      printed_whole c.args.form t (selected_by q t) (query_in c.args.query.now) (c.in_ok-bound.ensures.ok t same) can,
      ap (λ (cs : List Column). lines_text c.args.form cs (rows_selected q t.rows)) (sym picked),
    )

pub returns-clause-columns : goal.returns-clause-columns
returns-clause-columns c = columns (goal.at.returns-clause-columns c).In_ok-fields

pub returns-then-not-can_be_printed-clause-refused : goal.returns-then-not-can_be_printed-clause-refused
returns-then-not-can_be_printed-clause-refused c t same =
    let q = bound_query_in c.in_ok-bound.bound in
    let picked : pick q.places t.schema.columns ≡ map column_of c.in_ok-fields.fields.items =
    ap (λ (s : PlainSchema). pick q.places s.columns) (sym same) ∙ columns (goal.at.returns-then-not-can_be_printed-clause-refused c).In_ok-fields in
    let twice : is_printable c.args.form (selected_by q t) ≡ false = sym (c.can_be_printed.ensures (selected_by q t) (picked ∙ ap (map column_of) (sym c.deref-3.ensures.value))) ∙ c.if-not-can_be_printed.true in
    printed_twice c.args.form t (selected_by q t) (query_in c.args.query.now) (c.in_ok-bound.ensures.ok t same) twice

pub returns-in_err-bound-clause-refused : goal.returns-in_err-bound-clause-refused
returns-in_err-bound-clause-refused c =
    let p = err_from_is_err_and c.from_residual.result c.from_residual.ensures.1 in
    rw (p.1, p.2) (λ t same. printed_refused c.args.form t (query_in c.args.query.now) _ (c.in_err-bound.ensures.refused t same))

pub returns-in_err-fields-clause-refused : goal.returns-in_err-fields-clause-refused
returns-in_err-fields-clause-refused c =
    let p = err_from_is_err_and c.from_residual-in_err-fields.result c.from_residual-in_err-fields.ensures.1 in
    rw (p.1, p.2) (λ t same. tt)
