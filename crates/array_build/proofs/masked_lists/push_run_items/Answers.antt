use Rattle.std.proofs.Common.{◌++◌, ◌∙◌, List, arith, ap, sym}
use Rattle.std.proofs.lemmas.List.{append-nil}
use Rattle.std.proofs.lemmas.Result.{on_ok_weaker}
use Rattle.arrow_schema.specs.View.{column_of}
use Rattle.array_build.proofs.MaskedLists.{nulls_have_none, run_lists_under}
use Rattle.array_build.proofs.masked_lists.push_run_items.Goals as goal
use Rattle.cells.specs.Cell.{Cell}
use Rattle.columns.specs.Runs.{runs_cells}

pub overflow_add-at : goal.overflow_add-at
overflow_add-at c =
    let known = run_lists_under c.args.width (column_of c.args.item.now) c.args.mask.now c.args.at c.in-Slots.array c.in-Slots.from c.in-Slots.len c.args.run.now c.in-Slots.is c.requires.sound c.requires.below in
    let many = known.count in
    omega (arith, many, c.requires.counted)

pub push_slot_items-requires : goal.push_slot_items-requires
push_slot_items-requires c =
    let known = run_lists_under c.args.width (column_of c.args.item.now) c.args.mask.now c.args.at c.in-Slots.array c.in-Slots.from c.in-Slots.len c.args.run.now c.in-Slots.is c.requires.sound c.requires.below in
    let many = known.count in
    record {
      sound = known.sound;
      order = omega arith;
      bits = omega (arith, many, c.requires.long);
      within = known.within;
      valid = known.valid;
      good = c.requires.good;
    }

pub returns-in-Slots-clause-cells : goal.returns-in-Slots-clause-cells
returns-in-Slots-clause-cells c =
    let known = run_lists_under c.args.width (column_of c.args.item.now) c.args.mask.now c.args.at c.in-Slots.array c.in-Slots.from c.in-Slots.len c.args.run.now c.in-Slots.is c.requires.sound c.requires.below in
    on_ok_weaker c.push_slot_items.result (λ h. h ∙ ap (λ (cells : List Cell). runs_cells (column_of c.args.item.now) c.args.items.now.items ++ cells) (sym known.items)) c.push_slot_items.ensures.cells

pub returns-in-Nulls-clause-cells : goal.returns-in-Nulls-clause-cells
returns-in-Nulls-clause-cells c =
    let old : List Cell = runs_cells (column_of c.args.item.now) c.args.items.now.items in
    let none = nulls_have_none c.args.width (column_of c.args.item.now) c.args.mask.now c.args.at c.in-Nulls.field-0 c.args.run.now c.in-Nulls.is in
    sym (ap (λ (cells : List Cell). old ++ cells) none ∙ append-nil old)
