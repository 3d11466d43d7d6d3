use Rattle.std.proofs.Common.{◌≡◌, ◌≤◌, ◌<◌, ◌-◌, true, List, take}
use Rattle.arrow_schema.specs.Column.{Columns}
use Rattle.bitmap.specs.Bits.{bit}
use Rattle.cells.specs.Cell.{Cell}
use Rattle.query.specs.laws.RowsSet.{kept_front}
use Rattle.table_cut.specs.Rows.{run_rows, is_run_sound}
use Rattle.selection.specs.inner.Kept.{AreKept}
use Rattle.selection.proofs.kept.keep_batch.Given as goal

abbrev pub decreases-loop-next : goal.decreases-loop-next
decreases-loop-next l = l.end - l.next

abbrev pub invariant-loop-next : goal.invariant-loop-next
invariant-loop-next l = record {
  begins : l.start ≤ l.next;
  within : l.next ≤ l.end;
  set : l.next < l.end → bit l.mask l.next ≡ true;
  kept : (columns : Columns) → is_run_sound columns l.whole ≡ true → (rows : List (List Cell)) → AreKept columns (take l.most rows) l.fn.kept
      → AreKept columns (kept_front l.most rows l.mask l.start (run_rows columns l.whole) (l.next - l.start)) l.kept;
}
