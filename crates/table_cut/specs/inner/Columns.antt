-- Runs of rows, column by column.
use Rattle.std.specs.Prelude.{◌≡◌, ℕ, ◌+◌, Bool, true, ◌&&◌, nat_le, List, [], ◌∷◌, map, drop}
use Rattle.std.specs.List.{flat_map, list_all, range_with_len}
use Rattle.columns.specs.Runs.{runs_cells, are_runs_sound}
use Rattle.columns.specs.declared.slot_runs.SlotRun.{SlotRun}
use Rattle.arrow_schema.specs.Column.{Column, Columns}
use Rattle.cells.specs.Cell.{Cell}
use Rattle.columns.specs.Array.{Array, Arrays, slots_in, first_array}
use Rattle.columns.specs.CellAt.{cell_at, cells_from, row_at}
use Rattle.columns.specs.Sound.{is_sound}
use Rattle.columns.specs.View.{placed_arrays}
use Rattle.table_cut.specs.declared.row_run.RowRun.{RowRun}

-- the arrays from a place on
abbrev pub arrays_from_place : ℕ → RowRun → Arrays
arrays_from_place j r = placed_arrays r.bytes.now r.dictionaries.now (drop j r.arrays.now)

-- the rows that columns from a place on have
abbrev pub rows_from_place : ℕ → Columns → RowRun → List (List Cell)
rows_from_place j columns r = map (row_at columns (arrays_from_place j r)) (range_with_len r.from r.len)

abbrev pub array_at : ℕ → RowRun → Array
array_at j r = first_array (arrays_from_place j r)

-- the cells that the column at a place has
abbrev pub cells_at_place : ℕ → Column → RowRun → List Cell
cells_at_place j c r = cells_from (cell_at c (array_at j r)) r.from r.len

-- its array is long enough, and can be looked up
abbrev pub has_sound_array : ℕ → Column → RowRun → Bool
has_sound_array j c r = nat_le (r.from + r.len) (slots_in (array_at j r)) && is_sound c (array_at j r)

-- the runs of the column at a place, whatever its type
abbrev pub IsColumn : ℕ → List RowRun → List SlotRun → Type 0
IsColumn j rows runs = (c : Column) → list_all (has_sound_array j c) rows ≡ true → (runs_cells c runs ≡ flat_map (cells_at_place j c) rows) × (are_runs_sound c runs ≡ true)

-- those of the columns from a place on
abbrev pub AreColumns : ℕ → List RowRun → List (List SlotRun) → Type 0
AreColumns j rows [] = Unit {0}
AreColumns j rows (rs ∷ rss) = IsColumn j rows rs × AreColumns (j + 1) rows rss
