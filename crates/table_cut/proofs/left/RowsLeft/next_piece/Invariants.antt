use Rattle.std.proofs.Common.{◌≡◌, ◌≤◌, ◌-◌, ◌++◌, true, length}
use Rattle.arrow_schema.specs.Column.{columns_of}
use Rattle.arrow_schema.specs.View.{schema_of}
use Rattle.cells.specs.Dictionary.{dictionaries_fit}
use Rattle.cells.specs.Weight.{table_weight}
use Rattle.table_cut.specs.Left.{runs_left, rows_left}
use Rattle.table_cut.specs.Rows.{runs_rows, are_runs_sound}
use Rattle.table_cut.specs.inner.Bounds.{Weighs}
use Rattle.table_cut.specs.inner.Room.{IsSeenWithin}
use Rattle.table_cut.proofs.left.RowsLeft.next_piece.Given as goal

-- the rows so far fit into a piece, and the others are left
abbrev pub invariant-loop-self : goal.invariant-loop-self
invariant-loop-self l =
    let s = schema_of l.schema in
    let columns = columns_of s.columns in
    let taken = runs_rows columns l.runs.items in
    record {
      front : rows_left columns l.fn.self ≡ taken ++ rows_left columns l.self;
      count : l.rows ≡ length taken;
      few : l.rows ≤ 4096;
      weight : Weighs l.weight (table_weight s taken);
      light : table_weight s taken ≤ 16777216;
      sound : are_runs_sound columns l.runs.items ≡ true;
      left : are_runs_sound columns (runs_left l.self) ≡ true;
      fits : dictionaries_fit s taken ≡ true;
      seen : IsSeenWithin s taken l.seen;
    }

abbrev pub decreases-loop-self : goal.decreases-loop-self
decreases-loop-self l = length l.self.runs.items - l.self.next
