-- What a loop has made, when none is left.
use Rattle.std.proofs.Common.{◌≡◌, ◌≤◌, ◌++◌, ◌∙◌, ℕ, List, [], ap, drop, length, sym}
use Rattle.std.proofs.lemmas.List.{append-nil, drop_all}

pub ended : {X Y : Type 0} (left : List X → List Y) (made all : List Y) (xs : List X) (i : ℕ) → left [] ≡ [] → length xs ≤ i → made ++ left (drop i xs) ≡ all → made ≡ all
ended left made all xs i none past kept = sym (append-nil made) ∙ ap (λ ys. made ++ ys) (sym (ap left (drop_all i xs past) ∙ none)) ∙ kept
