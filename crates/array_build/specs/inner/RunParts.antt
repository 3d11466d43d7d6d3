-- Runs of structs, field by field.
use Rattle.std.specs.Prelude.{◌≡◌, ℕ, zero, suc, ◌+◌, Bool, true, ◌&&◌, nat_le, List, [], map, replicate}
use Rattle.std.specs.List.{flat_map, list_all, range_with_len}
use Rattle.columns.specs.Runs.{run_cells, runs_cells, is_run_sound, are_runs_sound}
use Rattle.columns.specs.declared.slot_runs.SlotRun.{SlotRun}
use Rattle.columns.specs.declared.slot_runs.SlotRun.TheVariants.{Slots, Nulls}
use Rattle.arrow_schema.specs.Column.{Column, Columns}
use Rattle.cells.specs.Cell.{Cell, null}
use Rattle.columns.specs.Array.{Array, Arrays, slots_in, children_in, first_array, other_arrays}
use Rattle.columns.specs.CellAt.{cell_at, cells_from, row_at}
use Rattle.columns.specs.Sound.{is_sound}
use Rattle.columns.specs.View.{view_array}
use Rattle.columns.specs.declared.view.ArrayView.{ArrayView}

-- arrays from a place on
abbrev pub arrays_from : ℕ → Arrays → Arrays
arrays_from zero arrays = arrays
arrays_from (suc j) arrays = arrays_from j (other_arrays arrays)

abbrev pub children_behind : ℕ → ArrayView → Arrays
children_behind j v = arrays_from j (children_in (view_array v))

abbrev pub child_at : ℕ → ArrayView → Array
child_at j v = first_array (children_behind j v)

-- the parts of structs that fields from a place on have: a null has none
abbrev pub parts_behind : ℕ → Columns → SlotRun → List (List Cell)
parts_behind j columns (Slots v from n) = map (row_at columns (children_behind j v)) (range_with_len from n)
parts_behind j columns (Nulls n) = replicate n []

-- the cells that the field at a place has
abbrev pub part_cells_behind : ℕ → Column → SlotRun → List Cell
part_cells_behind j c (Slots v from n) = cells_from (cell_at c (child_at j v)) from n
part_cells_behind j c (Nulls n) = replicate n null

-- its array is long enough, and can be looked up
abbrev pub has_sound_part : ℕ → Column → SlotRun → Bool
has_sound_part j c (Slots v from n) = nat_le (from + n) (slots_in (child_at j v)) && is_sound c (child_at j v)
has_sound_part j c (Nulls n) = true

-- what that field has of a run of structs
abbrev pub IsPartOf : ℕ → (run part : SlotRun) → Type 0
IsPartOf j run part = (c : Column) → has_sound_part j c run ≡ true → (run_cells c part ≡ part_cells_behind j c run) × (is_run_sound c part ≡ true)

-- the runs of the field at a place: if it is this column, and whatever its type
abbrev pub IsPartIn : Column → ℕ → (structs parts : List SlotRun) → Type 0
IsPartIn c j structs parts = list_all (has_sound_part j c) structs ≡ true → (runs_cells c parts ≡ flat_map (part_cells_behind j c) structs) × (are_runs_sound c parts ≡ true)

abbrev pub IsPart : ℕ → (structs parts : List SlotRun) → Type 0
IsPart j structs parts = (c : Column) → IsPartIn c j structs parts
