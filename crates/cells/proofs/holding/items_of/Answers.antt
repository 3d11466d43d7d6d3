use Rattle.std.proofs.Common.{◌≡◌, List, [], map, drop, ◌+◌, ◌++◌, ap, sym, append-nil, ◌∙◌}
use Rattle.std.specs.Borrow.{Bor}
use Rattle.std.specs.List.{flat_map}
use Rattle.cells.specs.declared.value.Value.{Value}
use Rattle.cells.specs.View.{cell_behind, cell}
use Rattle.cells.specs.Dictionary.{item_list}
use Rattle.cells.specs.Cell.{Cell}
use Rattle.std.proofs.lemmas.List.{drop_all}
use Rattle.facts.specs.laws.Lists.{drop-item}
use Rattle.cells.proofs.CellLemmas.{joined}
use Rattle.cells.proofs.holding.items_of.Goals as goal

pub loop-cell-preserved : goal.loop-cell-preserved
loop-cell-preserved c =
    let cells : List (Bor Value) = c.args.cells.now in
    let i = c.loop-cell.cell-index in
    let next = ap (λ (xs : List (Bor Value)). flat_map item_list (map cell_behind xs)) (drop-item cells i c.cell-item.result c.loop-cell-test.true c.cell-item.is) in
    joined (map cell_behind c.loop-cell.items.items) (item_list (cell c.cell-item.result.now)) (flat_map item_list (map cell_behind (drop (i + 1) cells))) (rw c.item_list.ensures at c.in_ok-add_all.ensures) next
    c.loop-cell.invariant

pub returns : goal.returns
returns c =
    let cells : List (Bor Value) = c.args.cells.now in
    let found : List Cell = map cell_behind c.loop-cell.items.items in
    let none : flat_map item_list (map cell_behind (drop c.loop-cell.cell-index cells)) ≡ [] = ap (λ (xs : List (Bor Value)). flat_map item_list (map cell_behind xs)) (drop_all c.loop-cell.cell-index cells c.loop-cell-test.false) in
    sym (append-nil found) ∙ ap (λ (cs : List Cell). found ++ cs) (sym none) ∙ c.loop-cell.invariant
