-- What follows from the outcome of checks in order.
use Rattle.std.proofs.Common.{◌≡◌, List, [], ◌∷◌, ◌++◌, Option, Some, None, Result, Ok, Err, refl}
use Rattle.facts.specs.Checks.{first_some, unless}

-- if there is a result, nothing was found before it
pub unless_passed : {A E : Type 0} (o : Option E) (r : Result A E) (x : A) → unless o r ≡ Ok x → (o ≡ None) × (r ≡ Ok x)
unless_passed None r x h = (refl, h)
unless_passed (Some e) r x h = absurd cc

-- two lists of checks, one after the other
pub first_some-after : {X : Type 0} (os ps : List (Option X)) → first_some os ≡ None → first_some (os ++ ps) ≡ first_some ps
first_some-after [] ps h = refl
first_some-after (None ∷ os) ps h = first_some-after os ps h
first_some-after (Some x ∷ os) ps h = absurd cc

pub first_some-before : {X : Type 0} (os ps : List (Option X)) (x : X) → first_some os ≡ Some x → first_some (os ++ ps) ≡ Some x
first_some-before [] ps x h = absurd cc
first_some-before (None ∷ os) ps x h = first_some-before os ps x h
first_some-before (Some y ∷ os) ps x h = h

pub first_some-both : {X : Type 0} (os ps : List (Option X)) → first_some (os ++ ps) ≡ None → (first_some os ≡ None) × (first_some ps ≡ None)
first_some-both [] ps h = (refl, h)
first_some-both (None ∷ os) ps h = first_some-both os ps h
first_some-both (Some x ∷ os) ps h = absurd cc
