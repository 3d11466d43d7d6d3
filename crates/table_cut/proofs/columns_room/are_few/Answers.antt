use Rattle.std.specs.List.{flat_map}
use Rattle.std.proofs.Common.{List, length, ap, arith}
use Rattle.std.proofs.lemmas.List.{take_all}
use Rattle.table_cut.specs.declared.row_run.RowRun.{RowRun}
use Rattle.table_cut.specs.inner.Columns.{cells_at_place}
use Rattle.table_cut.proofs.FitLemmas.{cells_more}
use Rattle.table_cut.proofs.columns_room.are_few.Goals as goal

pub loop-run-preserved : goal.loop-run-preserved
loop-run-preserved c = λ place column.
    let more = cells_more place column c.args.runs.now c.loop-run.run-index c.run-item.result c.loop-run-test.true c.run-item.is in
    let before = c.loop-run.invariant place column in
    omega (arith, more, before, c.if-run-left.false)

pub returns : goal.returns
returns c = λ yes place column.
    let all = ap (λ (runs : List RowRun). length (flat_map (cells_at_place place column) runs)) (take_all c.loop-run.run-index c.args.runs.now c.loop-run-test.false) in
    let before = c.loop-run.invariant place column in
    omega (arith, all, before)
