use Rattle.std.specs.List.{flat_map}
use Rattle.std.proofs.Common.{◌∙◌, ◌+◌, ◌++◌, List, map, drop, ap, sym, append_assoc, append-nil}
use Rattle.std.proofs.lemmas.List.{drop_all}
use Rattle.facts.specs.laws.Lists.{drop-item}
use Rattle.cells.specs.Cell.{Cell}
use Rattle.cells.specs.Dictionary.{item_list}
use Rattle.columns.specs.Borrowed.{borrowed_cell}
use Rattle.values.proofs.list_items.items.Goals as goal

pub loop-cell-preserved : goal.loop-cell-preserved
loop-cell-preserved c =
    let cells = c.args.cells.now in
    let i = c.loop-cell.cell-index in
    let cell = c.cell-item.result in
    let rest = flat_map item_list (map borrowed_cell (drop (i + 1) cells)) in
    ap (λ (xs : List Cell). xs ++ rest) c.in_ok-push_items.ensures
    ∙ append_assoc (map borrowed_cell c.loop-cell.items.items) (item_list (borrowed_cell cell)) rest
    ∙ (rw (drop-item cells i cell c.loop-cell-test.true c.cell-item.is) at c.loop-cell.invariant)

pub returns : goal.returns
returns c =
    let items = rw (drop_all c.loop-cell.cell-index c.args.cells.now c.loop-cell-test.false) at c.loop-cell.invariant in
    sym (append-nil (map borrowed_cell c.loop-cell.items.items)) ∙ items
