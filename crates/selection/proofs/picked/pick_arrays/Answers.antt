use Rattle.std.specs.Global.{Vec}
use Rattle.std.proofs.Common.{◌≡◌, ℕ, List, [], ◌++◌, map, drop, sym, ap, ◌∙◌, arith}
use Rattle.std.proofs.lemmas.List.{append-nil, drop_all}
use Rattle.columns.specs.View.{array_in, arrays_in, placed_arrays}
use Rattle.columns.specs.declared.array.PlacedArray.{PlacedArray}
use Rattle.query.specs.Selection.{pick}
use Rattle.selection.specs.inner.Picked.{first_arrays}
use Rattle.selection.proofs.Arrays.{one_picked, none_picked}
use Rattle.selection.proofs.picked.pick_arrays.Goals as goal
use Rattle.selection.proofs.picked.pick_arrays.Goals.{then-place-columns+in_ok-copy_at+in_ok-push, else-place-columns}

pub loop-place-preserved : goal.loop-place-preserved
loop-place-preserved c bytes all =
    let f = array_in bytes (arrays_in bytes all) in
    let ps = c.args.places.now in
    let i = c.loop-place.place-index in
    let arrays = c.args.arrays.now in
    let before = c.loop-place.picked.items in
    let more = c.if-place-columns.picked.items in
    let whole = pick ps (first_arrays c.args.columns (placed_arrays bytes all arrays)) in
    elim c.if-place-columns.branch [
      | then-place-columns+in_ok-copy_at+in_ok-push w ↦
          one_picked f ps i c.args.columns arrays before more w.in_ok-copy_at.field-0 whole c.loop-place-test.true w.if-place-columns.true
          (ap (λ (v : Vec PlacedArray). v.items) w.picked-is ∙ w.in_ok-push.ensures.items) (w.in_ok-copy_at.ensures bytes all) (c.loop-place.invariant bytes all)
      | else-place-columns w ↦
          none_picked f ps i c.args.columns arrays before more whole c.loop-place-test.true (omega (arith, w.if-place-columns.false)) (ap (λ (v : Vec PlacedArray). v.items) w.picked-is)
          (c.loop-place.invariant bytes all)
    ]

pub returns : goal.returns
returns c bytes all =
    let f = array_in bytes (arrays_in bytes all) in
    let ps = c.args.places.now in
    let own = map f c.loop-place.picked.items in
    let xs = first_arrays c.args.columns (placed_arrays bytes all c.args.arrays.now) in
    let none : drop c.loop-place.place-index ps ≡ [] = drop_all c.loop-place.place-index ps (omega (arith, c.loop-place-test.false)) in
    sym (append-nil own) ∙ ap (λ (qs : List ℕ). own ++ pick qs xs) (sym none) ∙ c.loop-place.invariant bytes all
