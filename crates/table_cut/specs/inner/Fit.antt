-- The columns of runs of rows, none of which is a list or a struct, and for how many rows the dictionary of each has room.
use Rattle.std.specs.Prelude.{◌≡◌, ◌≤◌, ℕ, ◌+◌, ◌++◌, Bool, true, nat_le, not, ◌&&◌, List, Some, None, length, take}
use Rattle.std.specs.List.{flat_map, list_all}
use Rattle.arrow_schema.specs.Column.{Column, Columns, Index, column, no_column, and_column}
use Rattle.arrow_schema.specs.Limits.{is_nested}
use Rattle.cells.specs.Cell.{Cell}
use Rattle.cells.specs.Dictionary.{entries_of, entry_limit, holdings, has_few_entries, is_within}
use Rattle.columns.specs.Buildable.{is_null_or_entry}
use Rattle.columns.specs.Texts.{has_utf8_texts}
use Rattle.table_cut.specs.declared.row_run.RowRun.{RowRun}
use Rattle.table_cut.specs.inner.Columns.{cells_at_place, has_sound_array}

abbrev pub is_flat : Column → Bool
is_flat (column name nullable kind dictionary pairs) = not (is_nested kind)

unfoldable pub are_flat : Columns → Bool
are_flat no_column = true
are_flat (and_column c cs) = is_flat c && are_flat cs

-- its dictionaries have room for these cells
abbrev pub column_fits : Column → List Cell → Bool
column_fits c cells = list_all has_few_entries (holdings c cells)

-- indices can name the entries of these cells
abbrev pub entries_fit : Index → List Cell → Bool
entries_fit index cells = is_within (entry_limit index) (length (entries_of cells))

-- after some cells there is room for just the first `n` of others
pub record HasRoomFor (fits : List Cell → Bool) (before own : List Cell) (n : ℕ) : Type 0 where
  pub within : n ≤ length own
  pub room : (k : ℕ) → k ≤ length own → fits (before ++ take k own) ≡ nat_le k n

-- the dictionaries of the columns from a place on have room for the cells of a piece and of the first `k` rows of a run
unfoldable pub fit_with : ℕ → Columns → List RowRun → RowRun → (k : ℕ) → Bool
fit_with j no_column piece run k = true
fit_with j (and_column c cs) piece run k = column_fits c (flat_map (cells_at_place j c) piece ++ take k (cells_at_place j c run)) && fit_with (j + 1) cs piece run k

-- they have room for just `n` rows of the run
pub record HaveRoom (j : ℕ) (cs : Columns) (piece : List RowRun) (run : RowRun) (n : ℕ) : Type 0 where
  pub within : n ≤ run.len
  pub room : (k : ℕ) → k ≤ run.len → fit_with j cs piece run k ≡ nat_le k n

-- if there is a dictionary, each cell is a null, or a value that a dictionary can have
abbrev pub is_column_coded : Column → List Cell → Bool
is_column_coded (column name nullable kind None pairs) cells = true
is_column_coded (column name nullable kind (Some index) pairs) cells = list_all (λ c. is_null_or_entry c && has_utf8_texts c) cells

-- the distinct cells of the column at a place can be counted
pub record IsCounted (j : ℕ) (c : Column) (runs : List RowRun) : Type 0 where
  pub flat : is_flat c ≡ true
  pub sound : list_all (has_sound_array j c) runs ≡ true
  pub coded : is_column_coded c (flat_map (cells_at_place j c) runs) ≡ true

-- and those of the columns from a place on
unfoldable pub AreCounted : ℕ → Columns → List RowRun → Type 0
AreCounted j no_column runs = Unit {0}
AreCounted j (and_column c cs) runs = IsCounted j c runs × AreCounted (j + 1) cs runs
