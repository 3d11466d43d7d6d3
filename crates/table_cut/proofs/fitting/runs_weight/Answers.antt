use Rattle.std.proofs.Common.{◌≡◌, ℕ, List, arith, ap, refl, sym, take, ◌∙◌}
use Rattle.std.proofs.lemmas.List.{take_all}
use Rattle.std.proofs.lemmas.List.Sums.{sum_by-append}
use Rattle.arrow_schema.specs.Column.{PlainSchema, Columns, columns_of}
use Rattle.arrow_schema.specs.View.{schema_of}
use Rattle.cells.specs.Weight.{capped_weight, row_weight, table_weight}
use Rattle.table_cut.specs.Rows.{run_rows, runs_rows, is_run_sound}
use Rattle.table_cut.specs.declared.row_run.RowRun.{RowRun}
use Rattle.table_cut.specs.inner.Weights.{front_weight, piece_weight}
use Rattle.table_cut.specs.laws.Runs.{run_size}
use Rattle.table_cut.proofs.RoomLemmas.{item_passes, one_run_more}
use Rattle.table_cut.proofs.RunSteps.{all_items}
use Rattle.table_cut.proofs.fitting.runs_weight.Goals as goal

pub front_weight-requires-clause-sound : goal.front_weight-requires-clause-sound
front_weight-requires-clause-sound c =
    item_passes (is_run_sound (columns_of (schema_of c.args.schema.now).columns)) c.args.runs.now c.loop-run.run-index c.run-item.result c.loop-run-test.true c.run-item.is c.requires

pub loop-run-preserved : goal.loop-run-preserved
loop-run-preserved c =
    let s : PlainSchema = schema_of c.args.schema.now in
    let cs : Columns = columns_of s.columns in
    let run : RowRun = c.run-item.result in
    let i : ℕ = c.loop-run.run-index in
    let before = runs_rows cs (take i c.args.runs.now) in
    let more = ap (table_weight s) (sym (one_run_more cs c.args.runs.now i run c.loop-run-test.true c.run-item.is)) ∙ sum_by-append (row_weight s) before (run_rows cs run) in
    let whole : front_weight s run run.len ≡ table_weight s (run_rows cs run) = ap (table_weight s) (take_all run.len (run_rows cs run) (omega (arith, run_size cs run))) in
    omega (arith, more, whole, c.loop-run.invariant, c.front_weight.ensures, c.add_weights-total.ensures)

pub returns : goal.returns
returns c =
    c.loop-run.invariant
    ∙ ap (λ (runs : List RowRun). capped_weight (piece_weight (schema_of c.args.schema.now) runs)) (all_items c.loop-run.run-index c.args.runs.now c.args.runs.now c.loop-run-test.false refl)
