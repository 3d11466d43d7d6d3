use Rattle.std.proofs.Common.{◌≡◌, ◌++◌, ◌-◌, map}
use Rattle.std.specs.List.{range_with_len}
use Rattle.query.specs.ObjectLine.{lines_text}
use Rattle.query.specs.inner.ColumnSlots.{slot_columns, slot_row}
use Rattle.query.proofs.slot_lines.push_slot_lines.Given as goal

abbrev pub invariant-loop-slot : goal.invariant-loop-slot
invariant-loop-slot l =
    l.out.items ≡ l.initial.out.items ++ lines_text l.form (slot_columns l.columns) (map (slot_row l.columns) (range_with_len l.from (l.slot - l.from)))
