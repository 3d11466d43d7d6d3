use Rattle.std.proofs.Common.{take}
use Rattle.arrow_schema.specs.Column.{columns_of}
use Rattle.arrow_schema.specs.View.{schema_of}
use Rattle.table_cut.specs.Rows.{runs_rows}
use Rattle.table_cut.specs.SeenRows.{HaveSeen}
use Rattle.table_cut.proofs.room.see_runs.Given as goal

abbrev pub invariant-loop-run : goal.invariant-loop-run
invariant-loop-run l =
    let s = schema_of l.schema in
    HaveSeen s (runs_rows (columns_of s.columns) (take l.run-index l.runs)) l.seen
