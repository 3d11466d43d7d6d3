-- The digests of four streams more.
use Rattle.std.proofs.Common.{◌≡◌, ℕ, ◌<◌, List, [], ◌∷◌, length, map, get_or, replicate, Option, Some, None, Result, Ok, Err, IfOk, refl, sym, ap, ◌∙◌, arith}
use Rattle.std.proofs.lemmas.List.{get_or-map}

-- four digests, each of a list of its own
pub some_four : {X : Type 0} (g : X → List ℕ) (ys : List X) (four : List (List ℕ)) → length ys ≡ 4 → four ≡ map g ys
    → Some (get_or four 0 []) ∷ Some (get_or four 1 []) ∷ Some (get_or four 2 []) ∷ Some (get_or four 3 []) ∷ [] ≡ map (λ y. Some (g y)) ys
some_four g (a ∷ b ∷ c ∷ d ∷ []) four h e = rw e refl
some_four g [] four h e = absurd (omega arith)
some_four g (a ∷ []) four h e = absurd (omega arith)
some_four g (a ∷ b ∷ []) four h e = absurd (omega arith)
some_four g (a ∷ b ∷ c ∷ []) four h e = absurd (omega arith)
some_four g (a ∷ b ∷ c ∷ d ∷ y ∷ ys) four h e = absurd (omega arith)

-- the same for each element
each_same : {X Y : Type 0} (y : Y) (xs : List X) → replicate (length xs) y ≡ map (λ _. y) xs
each_same y [] = refl
each_same y (x ∷ xs) = ap (λ ys. y ∷ ys) (each_same y xs)

-- no digest for each element
pub no_digests : {V E X : Type 0} (items : V → List (Option (List ℕ))) (xs : List X) (r : Result V E) (C : Option (List ℕ) → Type 0) → ((d : List ℕ) → C (Some d) → ⊥)
    → IfOk r (λ v. ((y : Option (List ℕ)) → C y → y ≡ None) → items v ≡ replicate (length xs) None) → IfOk r (λ v. items v ≡ map (λ _. None) xs)
no_digests items xs (Err e) C none h = h
no_digests items xs (Ok v) C none h = h only ∙ each_same None xs
  where
    only : (y : Option (List ℕ)) → C y → y ≡ None
    only None clone = refl
    only (Some d) clone = absurd (none d clone)

-- the digest at a place
pub digest_at : {X Y : Type 0} (f : X → Y) (xs : List X) (digests : List Y) (i : ℕ) (x : X) (d : Y) → i < length xs → x ≡ get_or xs i x → digests ≡ map f xs → d ≡ get_or digests i d → d ≡ f x
digest_at f xs digests i x d within is all own = own ∙ ap (λ ds. get_or ds i d) all ∙ get_or-map f xs i x d within ∙ ap f (sym is)
