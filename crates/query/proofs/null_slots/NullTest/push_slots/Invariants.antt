use Rattle.std.proofs.Common.{◌≡◌, ◌-◌, ◌≤◌, ◌++◌, map}
use Rattle.std.specs.List.{range_with_len}
use Rattle.columns.specs.View.{view_array}
use Rattle.query.specs.inner.Nulls.{null_holds_at}
use Rattle.query.proofs.null_slots.NullTest.push_slots.Given as goal

abbrev pub invariant-loop-first : goal.invariant-loop-first
invariant-loop-first l = record {
  within : l.first ≤ l.rows;
  flags : l.flags ≡ l.fn.flags ++ map (null_holds_at l.self (view_array l.fn.view)) (range_with_len 0 l.first);
}

abbrev pub decreases-loop-first : goal.decreases-loop-first
decreases-loop-first l = l.rows - l.first
