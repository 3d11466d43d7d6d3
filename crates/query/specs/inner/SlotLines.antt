-- The line of a row of record batches, value by value from the arrays.
use Rattle.std.specs.Prelude.{ℕ, zero, suc, nat_lt, List, [], ◌++◌, codes, map, if◌then◌else◌}
use Rattle.json.specs.Print.{quoted}
use Rattle.arrow_schema.specs.Column.{Column, columns_of}
use Rattle.arrow_schema.specs.Parts.{name_of_column}
use Rattle.cells.specs.Cell.{Cells, cell_list}
use Rattle.civil_days.specs.declared.date_form.DateForm.{DateForm}
use Rattle.civil_days.specs.declared.date_form.DateForm.TheVariants.{Numbers, Iso}
use Rattle.query.specs.Line.{json_of_all, json_of_others}
use Rattle.query.specs.ObjectLine.{members, other_members}
use Rattle.query.specs.Shown.{dated_cells}
use Rattle.query.specs.declared.row_form.RowForm.{RowForm}
use Rattle.query.specs.declared.row_form.RowShape.{RowShape}
use Rattle.query.specs.declared.row_form.RowShape.TheVariants as shapes

abbrev pub opening : RowShape → List ℕ
opening shapes.Array = codes "["
opening shapes.Object = codes "{"

abbrev pub closing : RowShape → List ℕ
closing shapes.Array = codes "]"
closing shapes.Object = codes "}"

abbrev pub separator : ℕ → List ℕ
separator place = if nat_lt 0 place then codes "," else []

-- what comes before the value of the column at a place
abbrev pub lead : RowShape → ℕ → Column → List ℕ
lead shapes.Array place c = separator place
lead shapes.Object place c = separator place ++ quoted (name_of_column c) ++ codes ":"

-- the values of the columns from a place on, each with what comes before it
abbrev pub rest_of_shape : RowShape → ℕ → List Column → Cells → List ℕ
rest_of_shape shapes.Array zero cs cells = json_of_all cells
rest_of_shape shapes.Array (suc place) cs cells = json_of_others cells
rest_of_shape shapes.Object zero cs cells = members (map name_of_column cs) (cell_list cells)
rest_of_shape shapes.Object (suc place) cs cells = other_members (map name_of_column cs) (cell_list cells)

-- a row of these cells, without its line feed
abbrev pub line_of_cells : RowShape → List Column → Cells → List ℕ
line_of_cells shape cs cells = opening shape ++ rest_of_shape shape 0 cs cells ++ closing shape

-- cells as they are printed
abbrev pub shown_cells : DateForm → List Column → Cells → Cells
shown_cells Numbers cs cells = cells
shown_cells Iso cs cells = dated_cells (columns_of cs) cells

-- the same of a row in each form
abbrev pub rest_of_line : RowForm → ℕ → List Column → Cells → List ℕ
rest_of_line form place cs cells = rest_of_shape form.shape place cs (shown_cells form.dates cs cells)
