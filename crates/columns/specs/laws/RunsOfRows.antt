-- Rows and their runs.
use Rattle.std.proofs.Common.{◌≡◌, true, List, [], ◌∷◌, map, refl}
use Rattle.std.proofs.lemmas.Bool.{and_parts}
use Rattle.arrow_schema.specs.Column.{Columns, no_column, and_column}
use Rattle.columns.specs.Runs.{HaveRuns, can_build_columns, runs_cells}
use Rattle.columns.specs.declared.slot_runs.SlotRun.{SlotRun}
use Rattle.cells.specs.Cell.{Cell}
use Rattle.columns.specs.Buildable.{can_build, can_build_parts}
use Rattle.columns.specs.Built.{first_cell, other_cells}

-- if the arrays of rows can be built, so can those of their runs
pub runs_can_be_built : (cs : Columns) (rs : List (List SlotRun)) (rows : List (List Cell)) → HaveRuns cs rs rows → can_build_parts cs rows ≡ true → can_build_columns cs rs ≡ true
unfolding HaveRuns can_build_columns can_build_parts
runs_can_be_built no_column rs rows have can = refl
runs_can_be_built (and_column c cs) [] rows have can = refl
runs_can_be_built (and_column c cs) (r ∷ rs) rows have can =
    let parts = and_parts (can_build c (map first_cell rows)) (can_build_parts cs (map other_cells rows)) can in
    let own : can_build c (runs_cells c r) ≡ true = rw have.0 at parts.0 in
    rw own (runs_can_be_built cs rs (map other_cells rows) have.1 parts.1)
