-- What is printed, and what the columns that are left have, is what all have. These can be read.
use Rattle.std.proofs.Common.{◌≡◌, ◌++◌, ◌+◌, drop}
use Rattle.query.specs.inner.ColumnSlots.{slot_columns, slot_cells, AreReadable}
use Rattle.query.specs.inner.SlotLines.{rest_of_line}
use Rattle.query.proofs.slot_lines.push_slots.Given as goal

abbrev pub invariant-loop-place : goal.invariant-loop-place
invariant-loop-place l = record {
  text : l.out.items ++ rest_of_line l.form l.place (slot_columns (drop l.place l.columns)) (slot_cells (drop l.place l.columns) l.slot)
      ≡ l.initial.out.items ++ rest_of_line l.form 0 (slot_columns l.columns) (slot_cells l.columns l.slot);
  readable : AreReadable l.form.dates (drop l.place l.columns) (l.slot + 1);
}
