use Rattle.std.proofs.Common.{map, drop}
use Rattle.arrays.specs.Shared.{ShareEntries}
use Rattle.arrow_schema.specs.Column.{columns_of}
use Rattle.arrow_schema.specs.View.{column_of}
use Rattle.table_cut.specs.Rows.{arrays_of_run}
use Rattle.table_cut.specs.inner.Columns.{arrays_from_place}
use Rattle.table_cut.proofs.shared.+shared.Given as goal

-- if the columns that are left share their entries, all do
abbrev pub invariant-share_entries-loop-i : goal.invariant-share_entries-loop-i
invariant-share_entries-loop-i l =
    ShareEntries (columns_of (map column_of (drop l.i l.fields))) (arrays_from_place l.i l.own) (arrays_from_place l.i l.others)
    → ShareEntries (columns_of (map column_of l.fields)) (arrays_of_run l.own) (arrays_of_run l.others)
