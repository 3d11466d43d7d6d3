use Rattle.std.specs.Prelude.{None, get_or}
use Rattle.std.specs.Vec.{with_items}
use Rattle.std.proofs.Common.{◌≡◌, ◌+◌, ◌^◌, ◌∙◌, ℕ, List, ap, arith, map}
use Rattle.std.proofs.lemmas.List.{with_items_is}
use Rattle.dictionary_codes.proofs.Places.{none_placed}
use Rattle.dictionary_codes.proofs.stamped_numbers.StampedNumbers.clear.Goals as goal
use Rattle.dictionary_codes.specs.inner.PlaceFrom.{place_from}

pub returns-then-self-le-LAST_BUT_ONE : goal.returns-then-self-le-LAST_BUT_ONE
returns-then-self-le-LAST_BUT_ONE c = λ n. none_placed (c.self.inside.first + 2 ^ 22) c.self.inside.numbers.items n c.self.invariant.below

pub returns-else-self-le-LAST_BUT_ONE : goal.returns-else-self-le-LAST_BUT_ONE
returns-else-self-le-LAST_BUT_ONE c = λ n.
    let same : (with_items c.self.inside.numbers c.restart.new.numbers).items ≡ c.restart.new.numbers =
    with_items_is c.self.inside.numbers _ (omega (arith, c.restart.ensures.count)) in
    ap (λ (xs : List ℕ). get_or (map (place_from 8388608) xs) n None) same ∙ none_placed 8388608 c.restart.new.numbers n c.restart.ensures.below
