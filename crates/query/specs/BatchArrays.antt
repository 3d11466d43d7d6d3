-- The rows of a record batch whose arrays are borrowed.
use Rattle.std.specs.Prelude.{Bool, ◌&&◌, List}
use Rattle.std.specs.List.{list_all}
use Rattle.arrow_schema.specs.Column.{Columns}
use Rattle.cells.specs.Cell.{Cell, cells_of}
use Rattle.columns.specs.Array.{Arrays}
use Rattle.columns.specs.CellAt.{rows_in}
use Rattle.columns.specs.Sound.{are_sound}
use Rattle.columns.specs.Texts.{have_utf8_texts}
use Rattle.columns.specs.View.{placed_arrays}
use Rattle.query.specs.declared.batch_arrays.BatchArrays.{BatchArrays}

abbrev pub arrays_of : BatchArrays → Arrays
arrays_of b = placed_arrays b.bytes.now b.dictionaries.now b.arrays.now

abbrev pub rows_of : Columns → BatchArrays → List (List Cell)
rows_of columns b = rows_in columns (arrays_of b) b.rows

-- each text of the row is UTF-8
abbrev pub has_texts : List Cell → Bool
has_texts row = have_utf8_texts (cells_of row)

-- its slots can be looked up, and its texts are UTF-8
abbrev pub is_readable : Columns → BatchArrays → Bool
is_readable columns b = are_sound columns b.rows (arrays_of b) && list_all has_texts (rows_of columns b)
