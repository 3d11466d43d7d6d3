-- Columns of rows as runs of slots of arrays (Arrow columnar format, "Physical Memory Layout").
use Rattle.std.specs.Prelude.{◌≡◌, ◌+◌, Bool, true, false, not, ◌&&◌, nat_le, List, [], ◌∷◌, map, replicate}
use Rattle.std.specs.List.{flat_map, list_all, range_with_len}
use Rattle.arrow_schema.specs.Column.{Column, Columns, no_column, and_column}
use Rattle.columns.specs.declared.slot_runs.SlotRun.{SlotRun}
use Rattle.columns.specs.declared.slot_runs.SlotRun.TheVariants.{Slots, Nulls}
use Rattle.cells.specs.Cell.{Cell, null}
use Rattle.columns.specs.Array.{slots_in}
use Rattle.columns.specs.Buildable.{can_build}
use Rattle.columns.specs.Built.{first_cell, other_cells}
use Rattle.columns.specs.CellAt.{cell_at, cells_from, is_valid}
use Rattle.columns.specs.Sound.{is_sound}
use Rattle.columns.specs.Tests.{has_short_validity}
use Rattle.columns.specs.View.{view_array}

-- the cells of one run, and of several runs one after another
abbrev pub run_cells : Column → SlotRun → List Cell
run_cells c (Slots view from len) = cells_from (cell_at c (view_array view)) from len
run_cells c (Nulls n) = replicate n null

abbrev pub runs_cells : Column → List SlotRun → List Cell
runs_cells c runs = flat_map (run_cells c) runs

-- the slots exist and can be looked up
abbrev pub is_run_sound : Column → SlotRun → Bool
is_run_sound c (Slots view from len) = is_sound c (view_array view) && nat_le (from + len) (slots_in (view_array view))
is_run_sound c (Nulls n) = true

abbrev pub are_runs_sound : Column → List SlotRun → Bool
are_runs_sound c runs = list_all (is_run_sound c) runs

-- ---- nulls

-- the slots exist, and the validity bitmap is empty or has a bit for each
abbrev pub has_validity : SlotRun → Bool
has_validity (Slots view from len) = not (has_short_validity (view_array view)) && nat_le (from + len) (slots_in (view_array view))
has_validity (Nulls n) = true

-- every slot is valid
abbrev pub is_run_valid : SlotRun → Bool
is_run_valid (Slots view from len) = list_all (is_valid (view_array view)) (range_with_len from len)
is_run_valid (Nulls n) = true

abbrev pub are_runs_valid : List SlotRun → Bool
are_runs_valid runs = list_all is_run_valid runs

-- ---- runs for each column

unfoldable pub are_columns_sound : Columns → List (List SlotRun) → Bool
are_columns_sound no_column [] = true
are_columns_sound no_column (r ∷ rs) = false
are_columns_sound (and_column c cs) [] = false
are_columns_sound (and_column c cs) (r ∷ rs) = are_runs_sound c r && are_columns_sound cs rs

-- the cells of each column of these rows are the cells of its runs; cells past the last column are ignored
unfoldable pub HaveRuns : Columns → List (List SlotRun) → List (List Cell) → Type 0
HaveRuns no_column [] rows = Unit {0}
HaveRuns no_column (r ∷ rs) rows = ⊥
HaveRuns (and_column c cs) [] rows = ⊥
HaveRuns (and_column c cs) (r ∷ rs) rows = (map first_cell rows ≡ runs_cells c r) × HaveRuns cs rs (map other_cells rows)

-- the array of each column can be built from its runs
unfoldable pub can_build_columns : Columns → List (List SlotRun) → Bool
can_build_columns no_column rs = true
can_build_columns (and_column c cs) [] = true
can_build_columns (and_column c cs) (r ∷ rs) = can_build c (runs_cells c r) && can_build_columns cs rs
