use Rattle.std.specs.List.{flat_map}
use Rattle.std.proofs.Common.{◌+◌, List, map, drop, refl}
use Rattle.facts.specs.laws.Lists.{drop-item}
use Rattle.columns.specs.Built.{fixed_items}
use Rattle.columns.specs.Borrowed.{borrowed_cell}
use Rattle.columns.specs.declared.borrowed.ValueRef.{ValueRef}
use Rattle.batch_build.specs.laws.Ended.{ended}
use Rattle.batch_build.specs.laws.Turns.{turned}
use Rattle.batch_build.proofs.item_cells.items_of_size.Goals as goal

pub loop-cell-preserved : goal.loop-cell-preserved
loop-cell-preserved c =
    let cell = c.cell-item.result in
    let others = map borrowed_cell (drop (c.loop-cell.cell-index + 1) c.args.cells.now) in
    let kept = rw (drop-item c.args.cells.now c.loop-cell.cell-index cell c.loop-cell-test.true c.cell-item.is) at c.loop-cell.invariant in
    turned
    (map borrowed_cell c.loop-cell.items.items)
    (fixed_items c.args.size (borrowed_cell cell))
    (flat_map (fixed_items c.args.size) others)
    _
    _
    c.in_ok-add_fixed_items.ensures
    kept

pub returns : goal.returns
returns c =
    ended (λ (cells : List ValueRef). flat_map (fixed_items c.args.size) (map borrowed_cell cells)) (map borrowed_cell c.loop-cell.items.items) _ c.args.cells.now c.loop-cell.cell-index refl
    c.loop-cell-test.false c.loop-cell.invariant
