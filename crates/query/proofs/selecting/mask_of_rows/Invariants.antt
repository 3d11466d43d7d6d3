use Rattle.std.proofs.Common.{◌≡◌, ◌≤◌, ◌+◌, ◌++◌, length, map, vec_len, vec_capacity}
use Rattle.values.specs.TableView.{table_of, rows_left}
use Rattle.query.specs.Bound.{holds}
use Rattle.query.specs.inner.BoundView.{bound_in}
use Rattle.query.proofs.selecting.mask_of_rows.Given as goal

abbrev pub invariant-loop-row : goal.invariant-loop-row
invariant-loop-row l = record {
  flags : l.flags.items ++ map (holds (bound_in l.bound)) (rows_left l.row-iterator) ≡ map (holds (bound_in l.bound)) (table_of l.table).rows;
  room : vec_len l.flags + length (rows_left l.row-iterator) ≤ vec_capacity l.flags;
}
