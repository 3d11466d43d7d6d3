use Rattle.std.proofs.Common.{◌≡◌, ◌∷◌, ◌+◌, ◌∙◌, List, drop, sym, ap, arith}
use Rattle.std.proofs.lemmas.List.{drop_all}
use Rattle.arrow_schema.specs.Column.{PlainSchema}
use Rattle.arrow_schema.specs.View.{schema_of}
use Rattle.cells.specs.Cell.{Cell, PlainTable}
use Rattle.columns.specs.Borrowed.{borrowed_cells}
use Rattle.values.specs.TableView.{table_of}
use Rattle.table_cut.proofs.CutSteps.{row_before}
use Rattle.table_cut.proofs.RowsTaken.{unfit_from, unfit_first, unfit_here, unfit_later, taken_by, all_taken}
use Rattle.table_cut.proofs.unfit.first_unfit_row.Goals as goal

pub returns-then-not-can_rows_fill-clause-first : goal.returns-then-not-can_rows_fill-clause-first
returns-then-not-can_rows_fill-clause-first c = sym (all_taken (schema_of c.args.schema.now) (table_of c.args.table.now) c.requires c.schema.ensures.kept (sym c.can_rows_fill.ensures ∙ c.if-not-can_rows_fill.true))

pub loop-place-init : goal.loop-place-init
loop-place-init c = sym (unfit_first (schema_of c.args.schema.now) (table_of c.args.table.now).rows)

pub returns-then-not-branch-clause-first : goal.returns-then-not-branch-clause-first
returns-then-not-branch-clause-first c =
    let s : PlainSchema = schema_of c.args.schema.now in
    let t : PlainTable = table_of c.args.table.now in
    let place = c.loop-place.place in
    let row : List Cell = borrowed_cells c.row_at.result in
    let next : drop place t.rows ≡ row ∷ drop (place + 1) t.rows = row_before t.rows place row (omega (arith, c.loop-place-test.true, c.len-place-end.ensures)) c.row_at.ensures in
    let unfit = taken_by s t c.requires c.schema.ensures.kept place row next ∙ sym c.in_ok-fits_dictionaries.ensures ∙ c.if-not-branch.true in
    sym (sym c.loop-place.invariant ∙ ap (unfit_from s place) next ∙ unfit_here s place row (drop (place + 1) t.rows) unfit)

pub loop-place-preserved : goal.loop-place-preserved
loop-place-preserved c =
    let s : PlainSchema = schema_of c.args.schema.now in
    let t : PlainTable = table_of c.args.table.now in
    let place = c.loop-place.place in
    let row : List Cell = borrowed_cells c.row_at.result in
    let next : drop place t.rows ≡ row ∷ drop (place + 1) t.rows = row_before t.rows place row (omega (arith, c.loop-place-test.true, c.len-place-end.ensures)) c.row_at.ensures in
    let taken = taken_by s t c.requires c.schema.ensures.kept place row next ∙ sym c.in_ok-fits_dictionaries.ensures ∙ c.if-not-branch.false in
    sym (ap (unfit_from s place) next ∙ unfit_later s place row (drop (place + 1) t.rows) taken) ∙ c.loop-place.invariant

pub returns-clause-first : goal.returns-clause-first
returns-clause-first c =
    let s : PlainSchema = schema_of c.args.schema.now in
    let t : PlainTable = table_of c.args.table.now in
    sym (sym c.loop-place.invariant ∙ ap (unfit_from s c.loop-place.place) (drop_all c.loop-place.place t.rows (omega (arith, c.loop-place-test.false, c.len-place-end.ensures))))
