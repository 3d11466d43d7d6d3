use Rattle.std.proofs.Common.{◌≡◌, ℕ, List, [], ◌∷◌, ◌++◌, sym, ap, ◌∙◌, arith}
use Rattle.std.specs.List.{range_with_len}
use Rattle.query.proofs.Choosing.{one_place_more}
use Rattle.query.proofs.selecting.all_places.Goals as goal

pub loop-place-preserved : goal.loop-place-preserved
loop-place-preserved c =
    let place = c.loop-place.place in
    record {
      places = c.push_reserved.ensures.items ∙ (ap (λ (xs : List ℕ). xs ++ place ∷ []) c.loop-place.invariant.places ∙ sym (one_place_more 0 place place (omega arith)));
      len = omega (arith, c.push_reserved.ensures.len, c.loop-place.invariant.len);
      room = omega (arith, c.push_reserved.ensures.capacity, c.loop-place.invariant.room);
    }

pub returns : goal.returns
returns c =
    let end : c.loop-place.place ≡ c.args.count = omega (arith, c.loop-place-test.false, c.loop-place.auto.place-end) in
    c.loop-place.invariant.places ∙ ap (range_with_len 0) end
