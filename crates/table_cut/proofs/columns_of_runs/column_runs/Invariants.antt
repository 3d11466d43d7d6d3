use Rattle.std.proofs.Common.{◌≡◌, ◌≤◌, length, map, vec_len, vec_capacity}
use Rattle.table_cut.specs.inner.Columns.{AreColumns}
use Rattle.table_cut.proofs.columns_of_runs.column_runs.Given as goal

abbrev pub invariant-loop-place : goal.invariant-loop-place
invariant-loop-place l = record {
  are : AreColumns 0 l.runs (map (λ v. v.items) l.columns.items);
  count : length l.columns.items ≡ l.place;
  len : vec_len l.columns ≡ l.place;
  room : length l.fields ≤ vec_capacity l.columns;
}
