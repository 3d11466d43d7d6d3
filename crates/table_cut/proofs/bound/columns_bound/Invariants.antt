use Rattle.std.proofs.Common.{◌≡◌, ◌≤◌, ◌+◌, drop, true}
use Rattle.cells.specs.Weight.{capped_weight}
use Rattle.columns.specs.Sound.{are_sound}
use Rattle.columns.specs.View.{fields_of}
use Rattle.table_cut.specs.inner.Bounds.{columns_weight}
use Rattle.table_cut.specs.inner.Columns.{arrays_from_place}
use Rattle.table_cut.proofs.bound.columns_bound.Given as goal

-- the rows weigh no more than the total and the columns that are left
abbrev pub invariant-loop-place : goal.invariant-loop-place
invariant-loop-place l = record {
  sound : are_sound (fields_of (drop l.place l.fields)) (l.run.from + l.run.len) (arrays_from_place l.place l.run) ≡ true;
  bound : capped_weight (l.rows + columns_weight 0 (fields_of l.fields) l.run l.rows)
      ≤ capped_weight (l.total + columns_weight l.place (fields_of (drop l.place l.fields)) l.run l.rows);
}
