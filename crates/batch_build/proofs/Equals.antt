-- Equal values that are added one by one.
use Rattle.std.proofs.Common.{◌≡◌, ◌<◌, ◌++◌, ◌+◌, ◌-◌, ℕ, suc, List, [], ◌∷◌, replicate, arith, ap, sym, ◌∙◌}
use Rattle.std.proofs.lemmas.List.{append_assoc}

pub one_more : {X : Type 0} (x : X) (xs ys : List X) (n k : ℕ) → k < n → xs ++ replicate (n - k) x ≡ ys → (xs ++ x ∷ []) ++ replicate (n - (k + 1)) x ≡ ys
one_more x xs ys n k lt h =
    let left : n - k ≡ suc (n - (k + 1)) = omega (arith, lt) in
    append_assoc xs (x ∷ []) (replicate (n - (k + 1)) x) ∙ sym (ap (λ (m : ℕ). xs ++ replicate m x) left) ∙ h
