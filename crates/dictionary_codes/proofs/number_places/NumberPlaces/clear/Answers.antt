use Rattle.std.proofs.Common.{arith, subst, sym}
use Rattle.dictionary_codes.specs.inner.PlaceFrom.{AreBelow}
use Rattle.dictionary_codes.proofs.Places.{below_none, none_placed}
use Rattle.dictionary_codes.proofs.number_places.NumberPlaces.clear.Goals as goal

pub returns-then-self-gt-LEAST_ROOM-clause-none : goal.returns-then-self-gt-LEAST_ROOM-clause-none
returns-then-self-gt-LEAST_ROOM-clause-none c = λ n.
    none_placed 1 c.fill.new.self.items n (subst (AreBelow 1) (sym (c.fill.ensures.items (λ y is. is))) (below_none 1 _ (omega arith)))

pub returns-else-self-gt-LEAST_ROOM-clause-none : goal.returns-else-self-gt-LEAST_ROOM-clause-none
returns-else-self-gt-LEAST_ROOM-clause-none c = λ n. none_placed c.args.self.now.end c.args.self.now.written.items n c.args.self.now.below
