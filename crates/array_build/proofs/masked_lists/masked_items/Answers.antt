use Rattle.std.specs.List.{flat_map}
use Rattle.std.proofs.Common.{◌≡◌, ◌∙◌, ◌+◌, ◌++◌, ℕ, List, ap, arith, drop, length, refl, sym}
use Rattle.std.proofs.lemmas.Bool.{and_parts}
use Rattle.arrow_schema.specs.Column.{Column, Kind}
use Rattle.arrow_schema.specs.View.{column_of}
use Rattle.batch_build.specs.laws.Ended.{ended}
use Rattle.array_build.proofs.MaskedContents.{next_run}
use Rattle.array_build.proofs.MaskedLists.{next_items}
use Rattle.batch_build.specs.laws.Turns.{turned}
use Rattle.array_build.proofs.masked_lists.masked_items.Goals as goal
use Rattle.array_build.specs.inner.Masked.{are_below}
use Rattle.dictionary_codes.specs.Masks.{mask_bits, run_bits, runs_bits}
use Rattle.array_build.specs.inner.MaskedContents.{run_under, runs_under}
use Rattle.batch_build.specs.Nodes.{list_kind}
use Rattle.array_build.specs.inner.RunItems.{list_column}
use Rattle.cells.specs.Cell.{Cell}
use Rattle.cells.specs.Dictionary.{item_list}
use Rattle.columns.specs.Runs.{are_runs_sound, is_run_sound, runs_cells}
use Rattle.columns.specs.declared.slot_runs.SlotRun.{SlotRun}
use Rattle.facts.specs.laws.Lists.{drop-item}

pub push_run_items-requires : goal.push_run_items-requires
push_run_items-requires c =
    let kind : Kind = list_kind c.args.width (column_of c.args.item.now) in
    let col : Column = list_column c.args.width (column_of c.args.item.now) in
    let run : SlotRun = c.run-item.result in
    let others : List SlotRun = drop (c.loop-run.run-index + 1) c.args.runs.now in
    let item = drop-item c.args.runs.now c.loop-run.run-index run c.loop-run-test.true c.run-item.is in
    let next = next_run kind c.args.mask.now c.loop-run.at (drop c.loop-run.run-index c.args.runs.now) run others item c.loop-run.invariant.below in
    let count = next.count in
    record {
      sound = (and_parts (is_run_sound col run) (are_runs_sound col others) (sym (ap (are_runs_sound col) item) ∙ c.loop-run.invariant.sound)).0;
      counted = omega (arith, count, c.loop-run.invariant.place, c.in_ok-_slots.ensures);
      long = omega (arith, count, c.loop-run.invariant.place, c.requires.long);
      below = next.own;
      good = c.loop-run.invariant.good;
    }

pub overflow_add-at : goal.overflow_add-at
overflow_add-at c =
    let kind : Kind = list_kind c.args.width (column_of c.args.item.now) in
    let run : SlotRun = c.run-item.result in
    let others : List SlotRun = drop (c.loop-run.run-index + 1) c.args.runs.now in
    let item = drop-item c.args.runs.now c.loop-run.run-index run c.loop-run-test.true c.run-item.is in
    let next = next_run kind c.args.mask.now c.loop-run.at (drop c.loop-run.run-index c.args.runs.now) run others item c.loop-run.invariant.below in
    let count = next.count in
    omega (arith, count, c.run_len-at.ensures, c.loop-run.invariant.place, c.in_ok-_slots.ensures)

pub loop-run-preserved : goal.loop-run-preserved
loop-run-preserved c =
    let column : Column = column_of c.args.item.now in
    let kind : Kind = list_kind c.args.width column in
    let col : Column = list_column c.args.width column in
    let run : SlotRun = c.run-item.result in
    let others : List SlotRun = drop (c.loop-run.run-index + 1) c.args.runs.now in
    let made : List Cell = runs_cells column c.loop-run.items.items in
    let item = drop-item c.args.runs.now c.loop-run.run-index run c.loop-run-test.true c.run-item.is in
    let next = next_run kind c.args.mask.now c.loop-run.at (drop c.loop-run.run-index c.args.runs.now) run others item c.loop-run.invariant.below in
    let own : List Cell = run_under kind c.args.mask.now c.loop-run.at run in
    let place : c.loop-run.at + c.run_len-at.result ≡ c.loop-run.at + length (run_bits run) = ap (λ (n : ℕ). c.loop-run.at + n) c.run_len-at.ensures in
    let left : List Cell = runs_under kind c.args.mask.now (c.loop-run.at + length (run_bits run)) others in
    let same : runs_under kind c.args.mask.now (c.loop-run.at + c.run_len-at.result) others ≡ left = ap (λ (k : ℕ). runs_under kind c.args.mask.now k others) place in
    let count = next.count in
    let split = next_items c.args.width column c.args.mask.now c.loop-run.at (drop c.loop-run.run-index c.args.runs.now) run others next in
    record {
      sound = (and_parts (is_run_sound col run) (are_runs_sound col others) (sym (ap (are_runs_sound col) item) ∙ c.loop-run.invariant.sound)).1;
      place = omega (arith, place, count, c.loop-run.invariant.place);
      below = ap (λ (k : ℕ). are_below (mask_bits c.args.mask.now k (length (runs_bits others))) (runs_bits others)) place ∙ next.below;
      good = c.in_ok-push_run_items.ensures.good;
      cells = ap (λ (cells : List Cell). runs_cells column c.push_run_items.new.items.items ++ flat_map item_list cells) same
          ∙ turned made (flat_map item_list own) (flat_map item_list left) _ _ c.in_ok-push_run_items.ensures.cells
          (sym (ap (λ (xs : List Cell). made ++ xs) split) ∙ c.loop-run.invariant.cells);
    }

pub returns-clause-cells : goal.returns-clause-cells
returns-clause-cells c =
    ended (λ (rs : List SlotRun). flat_map item_list (runs_under (list_kind c.args.width (column_of c.args.item.now)) c.args.mask.now c.loop-run.at rs))
    (runs_cells (column_of c.args.item.now) c.loop-run.items.items) _ c.args.runs.now c.loop-run.run-index refl c.loop-run-test.false c.loop-run.invariant.cells

pub returns-clause-sound : goal.returns-clause-sound
returns-clause-sound c = c.loop-run.invariant.good
