-- Whether a selection can be printed.
use Rattle.std.specs.Prelude.{Ok, Err}
use Rattle.std.proofs.Common.{◌≡◌, ◌∙◌, true, false, refl, ap}
use Rattle.cells.specs.Cell.{PlainTable}
use Rattle.query.specs.Bound.{unknown_column}
use Rattle.query.specs.Printed.{is_printable, printable, printed_selection}
use Rattle.query.specs.Query.{PlainQuery}
use Rattle.query.specs.Selection.{selection}
use Rattle.query.specs.View.{Reports}
use Rattle.query.specs.declared.errors.QueryError.{QueryError}
use Rattle.query.specs.declared.errors.QueryError.TheVariants as queries
use Rattle.query.specs.declared.row_form.RowForm.{RowForm}

-- a selection that can be printed is printed, and another one is refused
pub printed_whole : (form : RowForm) (table selected : PlainTable) (q : PlainQuery) → selection table q ≡ Ok selected → is_printable form selected ≡ true
    → printed_selection form table q ≡ Ok selected
printed_whole form table selected q is can = ap (printable form) is ∙ rw can refl

pub printed_twice : (form : RowForm) (table selected : PlainTable) (q : PlainQuery) → selection table q ≡ Ok selected → is_printable form selected ≡ false
    → printed_selection form table q ≡ Err unknown_column
printed_twice form table selected q is can = ap (printable form) is ∙ rw can refl

-- what the selection is refused for comes first
pub printed_refused : (form : RowForm) (table : PlainTable) (q : PlainQuery) (e : QueryError) → Reports e (selection table q) → Reports e (printed_selection form table q)
printed_refused form table q queries.UnknownColumn given = ap (printable form) given
printed_refused form table q queries.BadCondition given = ap (printable form) given
printed_refused form table q queries.NotComparable given = ap (printable form) given
printed_refused form table q queries.OutOfMemory given = tt
