-- What a query prints of a table.
use Rattle.std.specs.Prelude.{ℕ, Bool, true, List, Result, Ok, Err, if◌then◌else◌}
use Rattle.cells.specs.Cell.{PlainTable}
use Rattle.query.specs.Bound.{SelectionRefusal, unknown_column}
use Rattle.query.specs.ObjectLine.{are_named_apart, lines_text}
use Rattle.query.specs.Query.{PlainQuery}
use Rattle.query.specs.Selection.{selection}
use Rattle.query.specs.declared.row_form.RowForm.{RowForm}
use Rattle.query.specs.declared.row_form.RowShape.{RowShape}
use Rattle.query.specs.declared.row_form.RowShape.TheVariants.{Array, Object}

-- a line for each of the rows of a table
abbrev pub rows_text : RowForm → PlainTable → List ℕ
rows_text form t = lines_text form t.schema.columns t.rows

-- rows can be printed as objects if no two columns have the same name
abbrev pub can_be_shaped : RowShape → PlainTable → Bool
can_be_shaped Array t = true
can_be_shaped Object t = are_named_apart t.schema.columns

abbrev pub is_printable : RowForm → PlainTable → Bool
is_printable form t = can_be_shaped form.shape t

-- what is selected, if it can be printed in this form; a name that two columns share names none
abbrev pub printable : RowForm → Result PlainTable SelectionRefusal → Result PlainTable SelectionRefusal
printable form (Ok selected) = if is_printable form selected then Ok selected else Err unknown_column
printable form (Err refusal) = Err refusal

-- the table whose rows a query prints, or why there is none: refusals of its selection come first
abbrev pub printed_selection : RowForm → PlainTable → PlainQuery → Result PlainTable SelectionRefusal
printed_selection form t q = printable form (selection t q)
