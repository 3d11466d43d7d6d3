-- The answer to a query of a table that prints.
use Rattle.std.specs.Prelude.{◌≡◌, ℕ, Result, Ok, Err}
use Rattle.std.specs.Global.{Vec}
use Rattle.cells.specs.Cell.{PlainTable}
use Rattle.query.specs.Printed.{rows_text, printed_selection}
use Rattle.query.specs.Query.{PlainQuery}
use Rattle.query.specs.View.{Reports}
use Rattle.query.specs.declared.errors.QueryError.{QueryError}
use Rattle.query.specs.declared.row_form.RowForm.{RowForm}

-- the lines of what a query selects from a table, or why there are none
abbrev pub AnswersQuery : RowForm → PlainTable → PlainQuery → Result (Vec ℕ) QueryError → Type 0
AnswersQuery form table q (Ok lines) = (selected : PlainTable) × (printed_selection form table q ≡ Ok selected) × (lines.items ≡ rows_text form selected)
AnswersQuery form table q (Err error) = Reports error (printed_selection form table q)
