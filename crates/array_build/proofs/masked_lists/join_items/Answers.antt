use Rattle.std.proofs.Common.{◌++◌, List, ap}
use Rattle.arrow_schema.specs.View.{column_of}
use Rattle.array_build.proofs.MaskedLists.{joined_items}
use Rattle.array_build.proofs.masked_lists.join_items.Goals as goal
use Rattle.cells.specs.Cell.{Cell}
use Rattle.columns.specs.Array.{items_in}
use Rattle.columns.specs.CellAt.{cell_at, cells_from}
use Rattle.columns.specs.Runs.{runs_cells}
use Rattle.columns.specs.View.{view_array}

pub returns-then-from-end-clause-cells : goal.returns-then-from-end-clause-cells
returns-then-from-end-clause-cells c =
    joined_items (cell_at (column_of c.args.item.now) (items_in (view_array c.args.array))) c.args.start c.args.len c.args.from c.args.count
    (runs_cells (column_of c.args.item.now) c.args.items.now.items) c.if-from-end.true

pub returns-clause-cells : goal.returns-clause-cells
returns-clause-cells c =
    ap (λ (cells : List Cell). cells ++ cells_from (cell_at (column_of c.args.item.now) (items_in (view_array c.args.array))) c.args.from c.args.count) c.in_ok-push_items.ensures.cells
