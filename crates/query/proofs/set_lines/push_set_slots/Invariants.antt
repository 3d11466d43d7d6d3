-- The lines so far are those of the first of the slots before the next one whose bits are set.
use Rattle.std.proofs.Common.{◌≡◌, ◌≤◌, ◌<◌, ◌-◌, true, [], map}
use Rattle.std.specs.List.{range_with_len}
use Rattle.bitmap.specs.Bits.{bit}
use Rattle.query.specs.inner.ColumnSlots.{slot_columns, slot_row}
use Rattle.query.specs.laws.Lines.{ArePrinted}
use Rattle.query.specs.laws.RowsSet.{kept_front}
use Rattle.query.proofs.set_lines.push_set_slots.Given as goal

abbrev pub decreases-loop-next : goal.decreases-loop-next
decreases-loop-next l = l.end - l.next

abbrev pub invariant-loop-next : goal.invariant-loop-next
invariant-loop-next l = record {
  begins : l.start ≤ l.next;
  within : l.next ≤ l.end;
  set : l.next < l.end → bit l.mask l.next ≡ true;
  printed : ArePrinted l.form (slot_columns l.columns) l.most (kept_front l.most [] l.mask l.start (map (slot_row l.columns) (range_with_len 0 l.slots)) (l.next - l.start))
      l.fn.text.items l.text.items l.left;
}
