-- The rows of the columns asked for, in the arrays of record batches.
use Rattle.std.specs.Prelude.{ℕ, zero, suc, Bool, ◌&&◌, List, [], ◌∷◌, map}
use Rattle.std.specs.List.{list_all}
use Rattle.arrow_schema.specs.Column.{Columns, columns_of}
use Rattle.arrow_schema.specs.View.{column_of}
use Rattle.arrow_schema.specs.declared.types.Field.{Field}
use Rattle.cells.specs.Cell.{Cell}
use Rattle.columns.specs.Array.{Array, Arrays, first_array, other_arrays}
use Rattle.columns.specs.CellAt.{rows_in}
use Rattle.columns.specs.Sound.{are_sound}
use Rattle.columns.specs.View.{placed_arrays}
use Rattle.query.specs.BatchArrays.{has_texts}
use Rattle.query.specs.Selection.{pick}
use Rattle.selection.specs.declared.picked.PickedBatch.{PickedBatch}

-- n arrays; one that is missing has no slot
abbrev pub first_arrays : ℕ → Arrays → List Array
first_arrays zero arrays = []
first_arrays (suc n) arrays = first_array arrays ∷ first_arrays n (other_arrays arrays)

abbrev pub picked_columns : List Field → List ℕ → Columns
picked_columns fields places = columns_of (pick places (map column_of fields))

abbrev pub picked_arrays : PickedBatch → Arrays
picked_arrays b = placed_arrays b.bytes.now b.dictionaries.now b.arrays.items

abbrev pub picked_rows : Columns → PickedBatch → List (List Cell)
picked_rows columns b = rows_in columns (picked_arrays b) b.rows

-- its slots can be looked up
abbrev pub is_picked_sound : Columns → PickedBatch → Bool
is_picked_sound columns b = are_sound columns b.rows (picked_arrays b)

-- and their texts are UTF-8
abbrev pub is_picked_readable : Columns → PickedBatch → Bool
is_picked_readable columns b = is_picked_sound columns b && list_all has_texts (picked_rows columns b)
