use Rattle.std.proofs.Common.{List, [], ◌∷◌, ◌++◌, map, take, take_all, ap, sym, ◌∙◌}
use Rattle.std.specs.Borrow.{Bor}
use Rattle.std.proofs.lemmas.List.{append_assoc, map_push}
use Rattle.cells.specs.declared.value.Value.{Value}
use Rattle.cells.specs.Cell.{Cell}
use Rattle.cells.specs.View.{cell_behind, cell}
use Rattle.facts.specs.laws.Lists.{take-item}
use Rattle.cells.proofs.holding.add_all.Goals as goal

pub loop-value-preserved : goal.loop-value-preserved
loop-value-preserved c =
    let values : List Value = c.args.values.now in
    let i = c.loop-value.value-index in
    let start : List Cell = map cell_behind c.args.items.now.items in
    let here : List Cell = cell c.value-item.result ∷ [] in
    let seen = ap (λ (xs : List Value). map cell xs) (take-item values i c.value-item.result c.loop-value-test.true c.value-item.is) ∙ map_push cell (take i values) c.value-item.result in
    ap (λ (xs : List (Bor Value)). map cell_behind xs) c.in_ok-push.ensures.items ∙ map_push cell_behind c.loop-value.items.items _ ∙ ap (λ (xs : List Cell). xs ++ here) c.loop-value.invariant
    ∙ append_assoc start (map cell (take i values)) here ∙ ap (λ (xs : List Cell). start ++ xs) (sym seen)

pub returns : goal.returns
returns c =
    let start : List Cell = map cell_behind c.args.items.now.items in
    c.loop-value.invariant ∙ ap (λ (xs : List Value). start ++ map cell xs) (take_all c.loop-value.value-index c.args.values.now c.loop-value-test.false)
