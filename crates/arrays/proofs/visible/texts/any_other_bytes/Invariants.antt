use Rattle.std.specs.List.{list_any, range_with_len}
use Rattle.std.proofs.Common.{◌≡◌, ◌+◌, ◌-◌}
use Rattle.arrays.proofs.VisibleSlots.{bad}
use Rattle.arrays.proofs.visible.texts.any_other_bytes.Given as goal

-- a slot that is left is found where one of all is
abbrev pub invariant-loop-i : goal.invariant-loop-i
invariant-loop-i l = list_any (bad l.width l.view) (range_with_len l.i (l.from + l.count - l.i)) ≡ list_any (bad l.width l.view) (range_with_len l.from l.count)
