-- A row as a JSON object (RFC 8259, section 4): its values with the names of their columns, in the order of the columns, without spaces.
use Rattle.std.specs.Prelude.{ℕ, ◌==◌, Bool, List, [], ◌∷◌, ◌++◌, codes, map, count_by}
use Rattle.std.specs.List.{list_all}
use Rattle.json.specs.Print.{quoted}
use Rattle.arrow_schema.specs.Column.{Column}
use Rattle.arrow_schema.specs.Parts.{name_of_column}
use Rattle.cells.specs.Cell.{Cell}
use Rattle.query.specs.Bound.{has_name}
use Rattle.query.specs.Line.{json_of, line}
use Rattle.query.specs.Shown.{shown_row}
use Rattle.query.specs.declared.row_form.RowForm.{RowForm}
use Rattle.query.specs.declared.row_form.RowShape.{RowShape}
use Rattle.query.specs.declared.row_form.RowShape.TheVariants.{Array, Object}

-- the name as a string, a colon and the value
abbrev pub member : List ℕ → Cell → List ℕ
member name c = quoted name ++ codes ":" ++ json_of c

-- each member after a comma
unfoldable pub other_members : List (List ℕ) → List Cell → List ℕ
other_members (name ∷ names) (c ∷ cs) = codes "," ++ member name c ++ other_members names cs
other_members names cs = []

-- the members, with a comma between two
unfoldable pub members : List (List ℕ) → List Cell → List ℕ
members (name ∷ names) (c ∷ cs) = member name c ++ other_members names cs
members names cs = []

-- the line of a row with columns of these names, without its line feed
abbrev pub object_line : List (List ℕ) → List Cell → List ℕ
object_line names row = codes "{" ++ members names row ++ codes "}"

-- exactly one column has this name
abbrev pub is_of_one : List Column → List ℕ → Bool
is_of_one cs name = count_by (has_name name) cs == 1

-- no two columns have the same name
abbrev pub are_named_apart : List Column → Bool
are_named_apart cs = list_all (is_of_one cs) (map name_of_column cs)

-- the line of a row of each shape
abbrev pub line_of_shape : RowShape → List Column → List Cell → List ℕ
line_of_shape Array cs row = line row
line_of_shape Object cs row = object_line (map name_of_column cs) row

-- the line of a row in each form
abbrev pub line_in : RowForm → List Column → List Cell → List ℕ
line_in form cs row = line_of_shape form.shape cs (shown_row form.dates cs row)

-- a line for each of the rows
abbrev pub lines_text : RowForm → List Column → List (List Cell) → List ℕ
lines_text form columns [] = []
lines_text form columns (row ∷ rows) = line_in form columns row ++ codes "\n" ++ lines_text form columns rows
