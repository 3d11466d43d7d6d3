use Rattle.std.proofs.Common.{◌≡◌, ◌≤◌, length, take, vec_len, vec_capacity}
use Rattle.table_cut.specs.inner.Columns.{IsColumn}
use Rattle.table_cut.proofs.columns_of_runs.column_at.Given as goal

abbrev pub invariant-loop-run : goal.invariant-loop-run
invariant-loop-run l = record {
  is : IsColumn l.place (take l.run-index l.runs) l.slots.items;
  len : vec_len l.slots ≡ l.run-index;
  room : length l.runs ≤ vec_capacity l.slots;
}
