-- What is known of the entries of dictionaries in the rows of a piece, and the room that there is for more.
use Rattle.std.specs.Prelude.{◌≡◌, ◌≤◌, ◌<◌, ◌+◌, ℕ, true, false, List, [], ◌∷◌, ◌++◌, take}
use Rattle.std.specs.List.{list_all}
use Rattle.arrays.specs.Shared.{AreRowsSharing}
use Rattle.arrow_schema.specs.Column.{PlainSchema, columns_of}
use Rattle.arrow_schema.specs.Limits.{IsWithinLimits}
use Rattle.cells.specs.Cell.{Cell}
use Rattle.cells.specs.Dictionary.{dictionaries_fit}
use Rattle.cells.specs.Row.{is_row}
use Rattle.cells.specs.declared.limits.TheConstants.{MAX_PIECE_ROWS}
use Rattle.columns.specs.CellAt.{row_at}
use Rattle.table_cut.specs.Rows.{arrays_of_run, run_rows, runs_rows, is_run_sound, are_runs_sound}
use Rattle.table_cut.specs.declared.room.Room.{Room}
use Rattle.table_cut.specs.declared.room.Seen.{Seen}
use Rattle.table_cut.specs.declared.room.Seen.TheVariants as seens
use Rattle.table_cut.specs.declared.row_run.RowRun.{RowRun}
use Rattle.table_cut.specs.SeenRows.{HaveSeen}
use Rattle.table_cut.specs.inner.Filling.{can_rows_fill}

-- a run of rows of this schema
pub record IsRunOf (s : PlainSchema) (run : RowRun) : Type 0 where
  pub sound : is_run_sound (columns_of s.columns) run ≡ true
  pub rows : list_all (is_row s) (run_rows (columns_of s.columns) run) ≡ true

pub record AreRunsOf (s : PlainSchema) (runs : List RowRun) : Type 0 where
  pub sound : are_runs_sound (columns_of s.columns) runs ≡ true
  pub rows : list_all (is_row s) (runs_rows (columns_of s.columns) runs) ≡ true

-- a run after a piece: both have rows of the schema, and its dictionaries have room for those of the piece
pub record IsRunAfter (s : PlainSchema) (piece : List RowRun) (run : RowRun) : Type 0 where
  pub limits : IsWithinLimits s
  pub before : AreRunsOf s piece
  pub own : IsRunOf s run
  pub fits : dictionaries_fit s (runs_rows (columns_of s.columns) piece) ≡ true

abbrev pub IsSeen : PlainSchema → List (List Cell) → Seen → Type 0
IsSeen s rows seens.Nothing = rows ≡ []
IsSeen s rows (seens.Shared first) = AreRowsSharing (columns_of s.columns) (arrays_of_run first) rows
-- that they fit is known of each piece
IsSeen s rows (seens.Columns tried) = Unit {0}
IsSeen s rows (seens.Rows seen) = HaveSeen s rows seen

-- nothing is asked if the rows of a piece can fill no dictionary
abbrev pub IsSeenWithin : PlainSchema → List (List Cell) → Seen → Type 0
IsSeenWithin s rows seen = can_rows_fill MAX_PIECE_ROWS (columns_of s.columns) ≡ true → IsSeen s rows seen

-- the row of a run at a place
abbrev pub row_in : PlainSchema → RowRun → ℕ → List Cell
row_in s run i = row_at (columns_of s.columns) (arrays_of_run run) (run.from + i)

-- after some rows there is room for just `n` of a run: for these, and not for the next
pub record HasRoom (s : PlainSchema) (rows : List (List Cell)) (run : RowRun) (n : ℕ) : Type 0 where
  pub within : n ≤ run.len
  pub fits : dictionaries_fit s (rows ++ take n (run_rows (columns_of s.columns) run)) ≡ true
  pub full : n < run.len → dictionaries_fit s ((rows ++ take n (run_rows (columns_of s.columns) run)) ++ row_in s run n ∷ []) ≡ false

-- and if that is all of them, it is known which entries all have
pub record IsRoom (s : PlainSchema) (rows : List (List Cell)) (run : RowRun) (found : Room) : Type 0 where
  pub room : HasRoom s rows run found.rows
  pub known : found.rows ≡ run.len → IsSeen s (rows ++ run_rows (columns_of s.columns) run) found.seen
