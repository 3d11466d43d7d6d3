use Rattle.std.proofs.Common.{◌≡◌, List, [], map, drop, ◌+◌, ◌++◌, ap, sym, append-nil, ◌∙◌}
use Rattle.std.specs.Borrow.{Bor}
use Rattle.std.specs.Prelude.{slice_get, option_to_list}
use Rattle.cells.specs.declared.value.Value.{Value}
use Rattle.cells.specs.View.{cell_behind, row_behind, cell}
use Rattle.cells.specs.Dictionary.{cells_at}
use Rattle.cells.specs.Cell.{Cell}
use Rattle.std.proofs.lemmas.List.{drop_all}
use Rattle.facts.specs.laws.Lists.{drop-item}
use Rattle.cells.proofs.CellLemmas.{joined}
use Rattle.cells.proofs.holding.cells_at.Goals as goal

pub loop-row-preserved : goal.loop-row-preserved
loop-row-preserved c =
    let rows : List (Bor (List Value)) = c.args.rows.now in
    let k = c.loop-row.row-index in
    let next = ap (λ (xs : List (Bor (List Value))). cells_at c.args.i (map row_behind xs)) (drop-item rows k c.row-item.result c.loop-row-test.true c.row-item.is) in
    joined (map cell_behind c.loop-row.cells.items) (option_to_list (slice_get (map cell c.row-item.result.now) c.args.i)) (cells_at c.args.i (map row_behind (drop (k + 1) rows))) c.in_ok-add_part.ensures next
    c.loop-row.invariant

pub returns : goal.returns
returns c =
    let rows : List (Bor (List Value)) = c.args.rows.now in
    let found : List Cell = map cell_behind c.loop-row.cells.items in
    let none : cells_at c.args.i (map row_behind (drop c.loop-row.row-index rows)) ≡ [] = ap (λ (xs : List (Bor (List Value))). cells_at c.args.i (map row_behind xs)) (drop_all c.loop-row.row-index rows c.loop-row-test.false) in
    sym (append-nil found) ∙ ap (λ (cs : List Cell). found ++ cs) (sym none) ∙ c.loop-row.invariant
