use Rattle.std.specs.Prelude.{Option, Some, set}
use Rattle.std.proofs.Common.{◌<◌, ◌+◌, ◌^◌, ℕ, List, ap, arith, ◌∙◌}
use Rattle.std.proofs.lemmas.List.{map-set}
use Rattle.dictionary_codes.proofs.Places.{place_written}
use Rattle.dictionary_codes.proofs.Stamped.{below_set}
use Rattle.dictionary_codes.proofs.stamped_numbers.StampedNumbers.set.Goals as goal
use Rattle.dictionary_codes.specs.inner.PlaceFrom.{place_from}

pub invariant_of-self : goal.invariant_of-self
invariant_of-self c =
    let first : ℕ = c.self.inside.first in
    let lt : first + c.args.number < first + 2 ^ 22 = omega (arith, c.requires) in
    record { room = c.self.invariant.room; below = below_set (first + 2 ^ 22) c.self.inside.numbers.items c.args.place _ lt c.self.invariant.below }

pub returns-then-place-len : goal.returns-then-place-len
returns-then-place-len c =
    let first : ℕ = c.self.inside.first in
    map-set (place_from first) c.self.inside.numbers.items c.args.place (first + c.args.number)
    ∙ ap (set _ c.args.place) (place_written first c.args.number)
    ∙ ap (λ (ns : List (Option ℕ)). set ns c.args.place (Some c.args.number)) c.self.view_is
