use Rattle.std.proofs.Common.{List, [], ◌∷◌, ◌++◌, map, take, take_all, ap, sym, ◌∙◌}
use Rattle.std.specs.Borrow.{Bor}
use Rattle.std.proofs.lemmas.List.{map_push}
use Rattle.cells.specs.declared.value.Value.{Value}
use Rattle.cells.specs.Cell.{Cell}
use Rattle.cells.specs.View.{cell_behind, row_behind, cell}
use Rattle.cells.specs.Dictionary.{part_list}
use Rattle.facts.specs.laws.Lists.{take-item}
use Rattle.cells.proofs.holding.rows_of.Goals as goal

pub loop-cell-preserved : goal.loop-cell-preserved
loop-cell-preserved c =
    let cells : List (Bor Value) = c.args.cells.now in
    let i = c.loop-cell.cell-index in
    let x : Bor Value = c.cell-item.result in
    let seen = ap (λ (xs : List (Bor Value)). map part_list (map cell_behind xs)) (take-item cells i x c.loop-cell-test.true c.cell-item.is)
    ∙ ap (λ (xs : List Cell). map part_list xs) (map_push cell_behind (take i cells) x) ∙ map_push part_list (map cell_behind (take i cells)) (cell x.now) in
    ap (λ (xs : List (Bor (List Value))). map row_behind xs) c.in_ok-push.ensures.items ∙ map_push row_behind c.loop-cell.rows.items _
    ∙ (λ j. c.loop-cell.invariant j ++ c.part_list.ensures j ∷ []) ∙ sym seen

pub returns : goal.returns
returns c =
    c.loop-cell.invariant ∙ ap (λ (xs : List (Bor Value)). map part_list (map cell_behind xs)) (take_all c.loop-cell.cell-index c.args.cells.now c.loop-cell-test.false)
