use Rattle.std.specs.List.{list_any, range_with_len}
use Rattle.std.proofs.Common.{◌≡◌, ◌+◌, ◌-◌}
use Rattle.arrays.specs.inner.VisibleSpans.{has_no_value}
use Rattle.arrays.proofs.visible.nulls.any_null_found.Given as goal

-- a slot that is left is found where one of all is
abbrev pub invariant-loop-i : goal.invariant-loop-i
invariant-loop-i l = list_any (has_no_value l.fn.spec l.data_type l.view) (range_with_len l.i (l.from + l.count - l.i)) ≡ list_any (has_no_value l.fn.spec l.data_type l.view) (range_with_len l.from l.count)
