use Rattle.std.proofs.Common.{◌≡◌, ◌++◌, List, ℕ, map, drop}
use Rattle.columns.specs.View.{array_in, arrays_in, placed_arrays}
use Rattle.columns.specs.declared.array.Dictionary.{Dictionary}
use Rattle.query.specs.Selection.{pick}
use Rattle.selection.specs.inner.Picked.{first_arrays}
use Rattle.selection.proofs.picked.pick_arrays.Given as goal

abbrev pub invariant-loop-place : goal.invariant-loop-place
invariant-loop-place l =
    (bytes : List ℕ) (all : List Dictionary) → map (array_in bytes (arrays_in bytes all)) l.picked.items ++ pick (drop l.place-index l.places) (first_arrays l.columns (placed_arrays bytes all l.arrays))
    ≡ pick l.places (first_arrays l.columns (placed_arrays bytes all l.arrays))
