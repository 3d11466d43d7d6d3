-- Rows that are kept, as runs of slots.
use Rattle.std.specs.Prelude.{◌≡◌, ℕ, true, List, ◌++◌, length, take}
use Rattle.arrow_schema.specs.Column.{Columns}
use Rattle.cells.specs.Cell.{Cell}
use Rattle.table_cut.specs.Rows.{runs_rows, are_runs_sound}
use Rattle.selection.specs.declared.kept.KeptRuns.{KeptRuns}

-- the runs have these rows of some columns, and their number is known
pub record AreKept (columns : Columns) (rows : List (List Cell)) (k : KeptRuns) : Type 0 where
  pub rows_are : runs_rows columns k.runs.items ≡ rows
  pub sound : are_runs_sound columns k.runs.items ≡ true
  pub count_is : k.rows ≡ length rows

-- of more rows as many are kept too as there is room for
abbrev pub Keeps : Columns → (most : ℕ) → (before after : KeptRuns) → (more : List (List Cell)) → Type 0
Keeps columns most before after more = (rows : List (List Cell)) → AreKept columns (take most rows) before → AreKept columns (take most (rows ++ more)) after
