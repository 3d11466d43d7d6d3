-- The meaning of a borrowed value.
use Rattle.std.specs.Prelude.{Bool, true, false, List, map, drop}
use Rattle.arrow_schema.specs.View.{column_of}
use Rattle.columns.specs.declared.borrowed.ArraySlice.{ArraySlice}
use Rattle.columns.specs.declared.borrowed.PartsAt.{PartsAt}
use Rattle.columns.specs.declared.borrowed.Form.{Form}
use Rattle.columns.specs.declared.borrowed.Form.TheVariants as forms
use Rattle.columns.specs.declared.borrowed.Values.{Values}
use Rattle.columns.specs.declared.borrowed.ValuesIter.{ValuesIter}
use Rattle.columns.specs.declared.borrowed.ValueRef.{ValueRef}
use Rattle.columns.specs.declared.borrowed.ValueRef.TheVariants.{Null, Bool as Boolean, Int, Text, Bytes, List as Items, Struct}
use Rattle.cells.specs.Cell.{Cell, null, boolean, number, text, bytes, items, parts, cells_of}
use Rattle.cells.specs.View as values
use Rattle.columns.specs.CellAt.{cell_at, cells_from, row_at}
use Rattle.columns.specs.View.{view_array, placed_arrays, fields_of}

abbrev pub slice_cells : ArraySlice → List Cell
slice_cells r = cells_from (cell_at (column_of r.field.now) (view_array r.view)) r.start r.count

abbrev pub parts_cells : PartsAt → List Cell
parts_cells p = row_at (fields_of p.fields.now) (placed_arrays p.bytes.now p.dictionaries.now p.arrays.now) p.place

abbrev pub form_cells : Form → List Cell
form_cells (forms.Cells cells) = map values.cell cells.now
form_cells (forms.Slots r) = slice_cells r
form_cells (forms.Parts p) = parts_cells p

-- the cells of a row, the items of a list, or the parts of a struct
abbrev pub borrowed_cells : Values → List Cell
borrowed_cells v = form_cells v.form

abbrev pub is_stored : Form → Bool
is_stored (forms.Cells cells) = true
is_stored (forms.Slots r) = false
is_stored (forms.Parts p) = false

-- they are stored cells, and not in arrays
abbrev pub are_stored : Values → Bool
are_stored v = is_stored v.form

abbrev pub borrowed_cell : ValueRef → Cell
borrowed_cell Null = null
borrowed_cell (Boolean b) = boolean b
borrowed_cell (Int n) = number n
borrowed_cell (Text s) = text s.now
borrowed_cell (Bytes b) = bytes b.now
borrowed_cell (Items v) = items (cells_of (borrowed_cells v))
borrowed_cell (Struct v) = parts (cells_of (borrowed_cells v))

-- the values that an iterator has yet to yield
abbrev pub values_left : ValuesIter → List Cell
values_left it = drop it.next (borrowed_cells it.values)
