use Rattle.std.specs.List.{flat_map}
use Rattle.std.proofs.Common.{◌+◌, ◌++◌, ◌∙◌, List, ap, arith, drop, refl, sym}
use Rattle.std.proofs.lemmas.Bool.{and_parts}
use Rattle.batch_build.specs.laws.Ended.{ended}
use Rattle.batch_build.specs.laws.Turns.{turned}
use Rattle.array_build.proofs.run_fixed_items.fixed_item_runs.Goals as goal
use Rattle.array_build.specs.inner.RunItems.{fixed_below, fixed_column}
use Rattle.arrow_schema.specs.Column.{Column}
use Rattle.arrow_schema.specs.View.{column_of}
use Rattle.cells.specs.Cell.{Cell}
use Rattle.columns.specs.Runs.{are_runs_sound, is_run_sound, run_cells, runs_cells}
use Rattle.columns.specs.declared.slot_runs.SlotRun.{SlotRun}
use Rattle.facts.specs.laws.Lists.{all_pushed, drop-item, flat_map-push}

pub loop-run-init : goal.loop-run-init
loop-run-init c =
    let item : Column = column_of c.args.item.now in
    record {
      left = c.requires;
      cells = ap (λ (xs : List SlotRun). runs_cells item xs ++ flat_map (fixed_below c.args.size item) c.args.runs.now) c.in_ok-items.ensures.items;
      sound = ap (are_runs_sound item) c.in_ok-items.ensures.items;
      len = c.in_ok-items.ensures.len;
      room = omega (arith, c.in_ok-items.ensures.capacity);
    }

pub fixed_item_run-requires : goal.fixed_item_run-requires
fixed_item_run-requires c =
    let col : Column = fixed_column c.args.size (column_of c.args.item.now) in
    let here = drop-item c.args.runs.now c.loop-run.run-index c.run-item.result c.loop-run-test.true c.run-item.is in
    (and_parts (is_run_sound col c.run-item.result) (are_runs_sound col (drop (c.loop-run.run-index + 1) c.args.runs.now)) (sym (ap (are_runs_sound col) here) ∙ c.loop-run.invariant.left)).0

pub push_reserved-requires : goal.push_reserved-requires
push_reserved-requires c = omega (arith, c.loop-run-test.true, c.loop-run.invariant.len, c.loop-run.invariant.room)

pub loop-run-preserved : goal.loop-run-preserved
loop-run-preserved c =
    let item : Column = column_of c.args.item.now in
    let col : Column = fixed_column c.args.size item in
    let run : SlotRun = c.run-item.result in
    let part : SlotRun = c.in_ok-fixed_item_run.field-0 in
    let others : List SlotRun = drop (c.loop-run.run-index + 1) c.args.runs.now in
    let old : List SlotRun = c.loop-run.items.items in
    let here = drop-item c.args.runs.now c.loop-run.run-index run c.loop-run-test.true c.run-item.is in
    let kept = sym (ap (λ (rs : List SlotRun). runs_cells item old ++ flat_map (fixed_below c.args.size item) rs) here) ∙ c.loop-run.invariant.cells in
    let added = ap (runs_cells item) c.push_reserved.ensures.items ∙ flat_map-push (run_cells item) old part
    ∙ ap (λ (cells : List Cell). runs_cells item old ++ cells) c.in_ok-fixed_item_run.ensures.cells in
    record {
      left = (and_parts (is_run_sound col run) (are_runs_sound col others) (sym (ap (are_runs_sound col) here) ∙ c.loop-run.invariant.left)).1;
      cells = turned (runs_cells item old) (fixed_below c.args.size item run) (flat_map (fixed_below c.args.size item) others) _ _ added kept;
      sound = ap (are_runs_sound item) c.push_reserved.ensures.items ∙ all_pushed (is_run_sound item) old part c.loop-run.invariant.sound c.in_ok-fixed_item_run.ensures.sound;
      len = omega (arith, c.push_reserved.ensures.len, c.loop-run.invariant.len);
      room = omega (arith, c.push_reserved.ensures.capacity, c.loop-run.invariant.room);
    }

pub returns-clause-cells : goal.returns-clause-cells
returns-clause-cells c =
    let item : Column = column_of c.args.item.now in
    ended (λ (rs : List SlotRun). flat_map (fixed_below c.args.size item) rs) (runs_cells item c.loop-run.items.items) _ c.args.runs.now c.loop-run.run-index refl c.loop-run-test.false
    c.loop-run.invariant.cells

pub returns-clause-sound : goal.returns-clause-sound
returns-clause-sound c = c.loop-run.invariant.sound
