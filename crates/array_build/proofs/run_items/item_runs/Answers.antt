use Rattle.std.proofs.Common.{List, arith, drop, subst, sym}
use Rattle.std.proofs.lemmas.List.{drop_all}
use Rattle.array_build.proofs.RunItems.{AreItemsLeft, no_items_yet, first_is, items_more, all_items}
use Rattle.array_build.proofs.run_items.item_runs.Goals as goal
use Rattle.batch_build.specs.Nodes.{list_kind}
use Rattle.array_build.specs.inner.RunItems.{list_column}
use Rattle.array_build.specs.inner.Runs.{is_run_as_written}
use Rattle.columns.specs.declared.slot_runs.SlotRun.{SlotRun}
use Rattle.arrow_schema.specs.Column.{Column}
use Rattle.arrow_schema.specs.View.{column_of}
use Rattle.cells.specs.Dictionary.{item_list}
use Rattle.facts.specs.laws.Lists.{drop-item}

pub loop-run-init : goal.loop-run-init
loop-run-init c =
    let item : Column = column_of c.args.item.now in
    record {
      items = subst (λ (xs : List SlotRun). AreItemsLeft (is_run_as_written (list_kind c.args.width item)) item_list (list_column c.args.width item) item c.args.runs.now c.args.runs.now xs) (sym c.in_ok-items.ensures.items)
          (no_items_yet (is_run_as_written (list_kind c.args.width item)) item_list (list_column c.args.width item) item c.args.runs.now c.requires.sound c.requires.written);
      len = c.in_ok-items.ensures.len;
      room = omega (arith, c.in_ok-items.ensures.capacity);
    }

pub item_run-requires-clause-sound : goal.item_run-requires-clause-sound
item_run-requires-clause-sound c =
    let item : Column = column_of c.args.item.now in
    let here = drop-item c.args.runs.now c.loop-run.run-index c.run-item.result c.loop-run-test.true c.run-item.is in
    (first_is (is_run_as_written (list_kind c.args.width item)) item_list (list_column c.args.width item) item c.args.runs.now _ _ c.loop-run.items.items c.run-item.result here c.loop-run.invariant.items).0

pub item_run-requires-clause-written : goal.item_run-requires-clause-written
item_run-requires-clause-written c =
    let item : Column = column_of c.args.item.now in
    let here = drop-item c.args.runs.now c.loop-run.run-index c.run-item.result c.loop-run-test.true c.run-item.is in
    (first_is (is_run_as_written (list_kind c.args.width item)) item_list (list_column c.args.width item) item c.args.runs.now _ _ c.loop-run.items.items c.run-item.result here c.loop-run.invariant.items).1

pub push_reserved-requires : goal.push_reserved-requires
push_reserved-requires c = omega (arith, c.loop-run-test.true, c.loop-run.invariant.len, c.loop-run.invariant.room)

pub loop-run-preserved : goal.loop-run-preserved
loop-run-preserved c =
    let item : Column = column_of c.args.item.now in
    let here = drop-item c.args.runs.now c.loop-run.run-index c.run-item.result c.loop-run-test.true c.run-item.is in
    record {
      items = items_more (is_run_as_written (list_kind c.args.width item)) item_list (list_column c.args.width item) item c.args.runs.now _ _ c.loop-run.items.items c.push_reserved.new.self.items c.run-item.result c.item_run.result here
          c.push_reserved.ensures.items c.item_run.ensures c.loop-run.invariant.items;
      len = omega (arith, c.push_reserved.ensures.len, c.loop-run.invariant.len);
      room = omega (arith, c.push_reserved.ensures.capacity, c.loop-run.invariant.room);
    }

pub returns-clause-cells : goal.returns-clause-cells
returns-clause-cells c =
    let item : Column = column_of c.args.item.now in
    all_items (is_run_as_written (list_kind c.args.width item)) item_list (list_column c.args.width item) item c.args.runs.now (drop c.loop-run.run-index c.args.runs.now) c.loop-run.items.items
    (drop_all c.loop-run.run-index c.args.runs.now c.loop-run-test.false) c.loop-run.invariant.items

pub returns-clause-sound : goal.returns-clause-sound
returns-clause-sound c = c.loop-run.invariant.items.good
