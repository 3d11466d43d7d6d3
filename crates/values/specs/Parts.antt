-- The rows of record batches whose arrays are places in bytes.
use Rattle.std.specs.Prelude.{Bool, List}
use Rattle.std.specs.List.{flat_map, list_all}
use Rattle.arrow_schema.specs.Column.{Columns, columns_of, PlainSchema}
use Rattle.cells.specs.Cell.{Cell, PlainTable}
use Rattle.columns.specs.Array.{Arrays}
use Rattle.columns.specs.CellAt.{rows_in}
use Rattle.columns.specs.Sound.{are_sound}
use Rattle.columns.specs.View.{placed_arrays}
use Rattle.values.specs.declared.table_part.Batch.{Batch}
use Rattle.values.specs.declared.table_part.TablePart.{TablePart}

-- the arrays of a batch, in the bytes of its part
abbrev pub arrays_with : TablePart → Batch → Arrays
arrays_with p b = placed_arrays p.bytes.items p.dictionaries.items b.arrays.items

abbrev pub batch_rows : Columns → TablePart → Batch → List (List Cell)
batch_rows columns p b = rows_in columns (arrays_with p b) b.rows

-- the rows of each batch, in order
abbrev pub part_rows : Columns → TablePart → List (List Cell)
part_rows columns p = flat_map (batch_rows columns p) p.batches.items

abbrev pub parts_rows : Columns → List TablePart → List (List Cell)
parts_rows columns parts = flat_map (part_rows columns) parts

abbrev pub parts_table : PlainSchema → List TablePart → PlainTable
parts_table s parts = record { schema = s; rows = parts_rows (columns_of s.columns) parts }

-- the slots of each batch can be looked up
abbrev pub is_batch_sound : Columns → TablePart → Batch → Bool
is_batch_sound columns p b = are_sound columns b.rows (arrays_with p b)

abbrev pub are_parts_sound : Columns → List TablePart → Bool
are_parts_sound columns parts = list_all (λ p. list_all (is_batch_sound columns p) p.batches.items) parts
