use Rattle.arrow_schema.specs.View.{column_of}
use Rattle.array_build.proofs.MaskedLists.{nothing_added, run_added, run_sound}
use Rattle.array_build.proofs.masked_lists.push_items.Goals as goal
use Rattle.columns.specs.Array.{items_in}
use Rattle.columns.specs.CellAt.{cell_at}
use Rattle.columns.specs.Runs.{runs_cells}
use Rattle.columns.specs.View.{view_array}

pub returns-then-len-eq0-clause-cells : goal.returns-then-len-eq0-clause-cells
returns-then-len-eq0-clause-cells c =
    nothing_added (cell_at (column_of c.args.item.now) (items_in (view_array c.args.array))) c.args.start c.args.len (runs_cells (column_of c.args.item.now) c.args.items.now.items) c.if-len-eq0.true

pub returns-clause-good : goal.returns-clause-good
returns-clause-good c =
    run_sound (column_of c.args.item.now) (items_in (view_array c.args.array)) c.args.start c.args.len c.args.items.now.items _ c.item_slots.result c.in_ok-push.ensures.items c.item_slots.ensures
    c.requires.sound c.requires.good

pub returns-clause-cells : goal.returns-clause-cells
returns-clause-cells c =
    run_added (column_of c.args.item.now) (items_in (view_array c.args.array)) c.args.start c.args.len c.args.items.now.items _ c.item_slots.result c.in_ok-push.ensures.items c.item_slots.ensures
