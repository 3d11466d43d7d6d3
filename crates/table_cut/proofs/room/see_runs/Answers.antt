use Rattle.std.proofs.Common.{ℕ, List, take, refl, subst}
use Rattle.arrow_schema.specs.Column.{PlainSchema, Columns, columns_of}
use Rattle.arrow_schema.specs.View.{schema_of}
use Rattle.cells.specs.Cell.{Cell}
use Rattle.table_cut.specs.Rows.{runs_rows, is_run_sound}
use Rattle.table_cut.specs.declared.row_run.RowRun.{RowRun}
use Rattle.table_cut.specs.SeenRows.{HaveSeen}
use Rattle.table_cut.proofs.RoomLemmas.{item_passes, rows_of_run, one_run_more}
use Rattle.table_cut.proofs.RunSteps.{all_items}
use Rattle.table_cut.proofs.room.see_runs.Goals as goal

pub loop-run-init : goal.loop-run-init
loop-run-init c = c.none-seen.ensures (schema_of c.args.schema.now)

pub see_rows-requires-clause-run : goal.see_rows-requires-clause-run
see_rows-requires-clause-run c =
    let s : PlainSchema = schema_of c.args.schema.now in
    let i : ℕ = c.loop-run.run-index in
    record {
      sound = item_passes (is_run_sound (columns_of s.columns)) c.args.runs.now i c.run-item.result c.loop-run-test.true c.run-item.is c.requires.runs.sound;
      rows = rows_of_run s c.args.runs.now i c.run-item.result c.loop-run-test.true c.run-item.is c.requires.runs.rows;
    }

pub see_rows-requires-clause-seen : goal.see_rows-requires-clause-seen
see_rows-requires-clause-seen c = (runs_rows (columns_of (schema_of c.args.schema.now).columns) (take c.loop-run.run-index c.args.runs.now), c.loop-run.invariant)

pub loop-run-preserved : goal.loop-run-preserved
loop-run-preserved c =
    let s : PlainSchema = schema_of c.args.schema.now in
    let cs : Columns = columns_of s.columns in
    subst (λ (rows : List (List Cell)). HaveSeen s rows c.see_rows.new.seen)
    (one_run_more cs c.args.runs.now c.loop-run.run-index c.run-item.result c.loop-run-test.true c.run-item.is)
    (c.in_ok-see_rows.ensures (runs_rows cs (take c.loop-run.run-index c.args.runs.now)) c.loop-run.invariant)

pub returns : goal.returns
returns c =
    let s : PlainSchema = schema_of c.args.schema.now in
    subst (λ (runs : List RowRun). HaveSeen s (runs_rows (columns_of s.columns) runs) c.loop-run.seen) (all_items c.loop-run.run-index c.args.runs.now c.args.runs.now c.loop-run-test.false refl) c.loop-run.invariant
