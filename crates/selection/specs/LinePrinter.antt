-- A printer of the lines of a selection, which is given the rows of a table one part after another.
use Rattle.std.specs.Prelude.{◌≡◌, ℕ, List, map}
use Rattle.arrow_schema.specs.Column.{Column}
use Rattle.arrow_schema.specs.View.{column_of}
use Rattle.cells.specs.Cell.{Cell}
use Rattle.query.specs.BoundQuery.{PlainBoundQuery, bound_query_in, rows_selected, query_after}
use Rattle.query.specs.ObjectLine.{lines_text}
use Rattle.query.specs.Selection.{pick}
use Rattle.query.specs.declared.row_form.RowForm.{RowForm}
use Rattle.selection.specs.declared.line_printer.LinePrinter.{LinePrinter}

-- how a row is printed, the columns that are printed, and what is asked of the rows that follow
pub record PlainPrinter : Type 0 where
  pub form : RowForm
  pub columns : List Column
  pub query : PlainBoundQuery

abbrev pub printer_in : LinePrinter → PlainPrinter
printer_in p = record { form = p.form; columns = map column_of p.fields.items; query = bound_query_in p.query }

-- it prints its columns of tables with these columns
abbrev pub PrintsOf : PlainPrinter → List Column → Type 0
PrintsOf p columns = pick p.query.places columns ≡ p.columns

-- the lines of what it selects of rows
abbrev pub printed_lines : PlainPrinter → List (List Cell) → List ℕ
printed_lines p rows = lines_text p.form p.columns (rows_selected p.query rows)

-- the printer of the rows that follow these
abbrev pub printer_after : PlainPrinter → List (List Cell) → PlainPrinter
printer_after p rows = record { form = p.form; columns = p.columns; query = query_after p.query rows }
