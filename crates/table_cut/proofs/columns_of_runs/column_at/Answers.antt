use Rattle.std.proofs.Common.{List, [], subst, sym, arith}
use Rattle.std.proofs.lemmas.List.{take_all}
use Rattle.columns.specs.declared.slot_runs.SlotRun.{SlotRun}
use Rattle.table_cut.specs.declared.row_run.RowRun.{RowRun}
use Rattle.table_cut.specs.inner.Columns.{IsColumn}
use Rattle.table_cut.proofs.ColumnLemmas.{no_column_runs, column_more}
use Rattle.table_cut.proofs.columns_of_runs.column_at.Goals as goal

pub loop-run-init : goal.loop-run-init
loop-run-init c = record {
  is = subst (λ (xs : List SlotRun). IsColumn c.args.place [] xs) (sym c.in_ok-slots.ensures.items) (no_column_runs c.args.place);
  len = c.in_ok-slots.ensures.len;
  room = omega (arith, c.in_ok-slots.ensures.capacity);
}

pub push_reserved-requires : goal.push_reserved-requires
push_reserved-requires c = omega (arith, c.loop-run-test.true, c.loop-run.invariant.len, c.loop-run.invariant.room)

pub loop-run-preserved : goal.loop-run-preserved
loop-run-preserved c = record {
  is = column_more c.args.place c.args.runs.now c.loop-run.run-index c.run-item.result c.loop-run.slots.items c.push_reserved.new.self.items c.slots_at.result
      c.loop-run-test.true c.run-item.is c.push_reserved.ensures.items c.slots_at.ensures.cells c.slots_at.ensures.sound c.loop-run.invariant.is;
  len = omega (arith, c.push_reserved.ensures.len, c.loop-run.invariant.len);
  room = omega (arith, c.push_reserved.ensures.capacity, c.loop-run.invariant.room);
}

pub returns : goal.returns
returns c = subst (λ (xs : List RowRun). IsColumn c.args.place xs c.loop-run.slots.items) (take_all c.loop-run.run-index c.args.runs.now c.loop-run-test.false) c.loop-run.invariant.is
