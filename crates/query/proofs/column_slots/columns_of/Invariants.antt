use Rattle.std.proofs.Common.{◌≡◌, ◌≤◌, length, take, vec_len, vec_capacity}
use Rattle.query.specs.inner.ColumnSlots.{AreColumns}
use Rattle.query.proofs.column_slots.columns_of.Given as goal

abbrev pub invariant-loop-place : goal.invariant-loop-place
invariant-loop-place l = record {
  columns : AreColumns l.dates l.batch 0 (take l.place l.fields) l.columns.items;
  len : vec_len l.columns ≡ l.place;
  room : length l.fields ≤ vec_capacity l.columns;
}
