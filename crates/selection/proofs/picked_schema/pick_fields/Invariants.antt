use Rattle.std.proofs.Common.{◌≡◌, ◌≤◌, ◌++◌, length, map, drop, vec_len, vec_capacity}
use Rattle.arrow_schema.specs.View.{column_of}
use Rattle.query.specs.Selection.{pick}
use Rattle.selection.proofs.picked_schema.pick_fields.Given as goal

abbrev pub invariant-loop-place : goal.invariant-loop-place
invariant-loop-place l = record {
  columns : map column_of l.picked.items ++ pick (drop l.place-index l.places) (map column_of l.fields) ≡ pick l.places (map column_of l.fields);
  len : vec_len l.picked ≤ l.place-index;
  room : length l.places ≤ vec_capacity l.picked;
}
