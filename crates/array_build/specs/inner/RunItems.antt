-- Runs of lists: how many items each list has, and the runs of these items.
use Rattle.std.specs.Prelude.{◌≡◌, ℕ, ◌*◌, true, List, None, map, length, replicate}
use Rattle.std.specs.List.{flat_map}
use Rattle.batch_build.specs.Batch.{plain_column}
use Rattle.batch_build.specs.Nodes.{list_kind}
use Rattle.columns.specs.Runs.{run_cells, is_run_sound}
use Rattle.columns.specs.declared.slot_runs.SlotRun.{SlotRun}
use Rattle.columns.specs.declared.slot_runs.SlotRun.TheVariants.{Slots, Nulls}
use Rattle.arrow_schema.specs.Column.{Column, fixed_lists}
use Rattle.cells.specs.Cell.{Cell, null}
use Rattle.cells.specs.Dictionary.{item_list}
use Rattle.columns.specs.Array.{Array, items_in}
use Rattle.columns.specs.CellAt.{cell_at, cells_from}
use Rattle.columns.specs.Sound.{is_sound}
use Rattle.columns.specs.View.{view_array}
use Rattle.columns.specs.declared.numbers.OffsetWidth.{OffsetWidth}

abbrev pub list_column : OffsetWidth → Column → Column
list_column width item = plain_column (list_kind width item) None

-- the lists of a run
abbrev pub run_lists : OffsetWidth → Column → SlotRun → List Cell
run_lists width item run = run_cells (list_column width item) run

abbrev pub list_sizes : List Cell → List ℕ
list_sizes cells = map (λ c. length (item_list c)) cells

-- lists of one size
abbrev pub fixed_column : (size : ℕ) → Column → Column
fixed_column size item = plain_column (fixed_lists size item) None

-- the items of a run of them, whatever is below nulls
abbrev pub fixed_below : (size : ℕ) → (item : Column) → SlotRun → List Cell
fixed_below size item (Slots view from len) = cells_from (cell_at item (items_in (view_array view))) (from * size) (len * size)
fixed_below size item (Nulls n) = replicate (n * size) null

pub record AreFixedItems (size : ℕ) (item : Column) (run part : SlotRun) : Type 0 where
  pub cells : run_cells item part ≡ fixed_below size item run
  pub sound : is_run_sound item part ≡ true

-- a run that has what is below some lists
pub record AreItems (below : Cell → List Cell) (item : Column) (run : SlotRun) (some : List Cell) : Type 0 where
  pub cells : run_cells item run ≡ flat_map below some
  pub sound : is_run_sound item run ≡ true

-- a run of n slots of an array, from one on
pub record HasSlots (a : Array) (from n : ℕ) (run : SlotRun) : Type 0 where
  pub cells : (c : Column) → run_cells c run ≡ cells_from (cell_at c a) from n
  pub sound : (c : Column) → is_sound c a ≡ true → is_run_sound c run ≡ true
