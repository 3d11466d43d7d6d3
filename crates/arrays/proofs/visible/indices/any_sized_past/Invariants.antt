use Rattle.std.specs.List.{list_any, range_with_len}
use Rattle.std.proofs.Common.{◌≡◌, ◌+◌, ◌-◌}
use Rattle.arrow_schema.specs.Column.{Kind}
use Rattle.arrays.proofs.VisibleSlots.{past}
use Rattle.arrays.proofs.visible.indices.any_sized_past.Given as goal

-- a slot that is left is found where one of all is
abbrev pub invariant-loop-i : goal.invariant-loop-i
invariant-loop-i g l = (kind : Kind) → list_any (past l.slots.spec l.slots.view kind) (range_with_len l.i (l.from + l.count - l.i)) ≡ list_any (past l.slots.spec l.slots.view kind) (range_with_len l.from l.count)
