use Rattle.std.proofs.Common.{◌≡◌, ◌++◌, map}
use Rattle.std.specs.List.{range_with_len}
use Rattle.columns.specs.View.{view_array}
use Rattle.query.specs.inner.Slots.{integer_holds_at}
use Rattle.query.proofs.integer_slots.IntegerComparison.push_slots.Given as goal

abbrev pub invariant-loop-i : goal.invariant-loop-i
invariant-loop-i l = l.flags ≡ l.fn.flags ++ map (integer_holds_at l.self (view_array l.view)) (range_with_len 0 l.i)
