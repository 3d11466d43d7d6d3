-- Numbers that are written with a first number, as one more is written and as all are written anew.
use Rattle.std.specs.Prelude.{get_or, replicate, set, take}
use Rattle.std.proofs.Common.{◌≡◌, ◌≤◌, ◌<◌, ℕ, zero, suc, ◌++◌, List, [], ◌∷◌, length, ap, arith, subst, sym, take_all, ◌∙◌}
use Rattle.dictionary_codes.specs.inner.PlaceFrom.{AreBelow}
use Rattle.dictionary_codes.proofs.Places.{below_none}

-- one number more
pub below_set : (end : ℕ) (xs : List ℕ) (i y : ℕ) → y < end → AreBelow end xs → AreBelow end (set xs i y)
below_set end [] zero y lt h n = h n
below_set end [] (suc i) y lt h n = h n
below_set end (x ∷ xs) zero y lt h zero = lt
below_set end (x ∷ xs) zero y lt h (suc n) = h (suc n)
below_set end (x ∷ xs) (suc i) y lt h zero = h 0
below_set end (x ∷ xs) (suc i) y lt h (suc n) = below_set end xs i y lt (λ m. h (suc m)) n

-- zeros
pub below_zeros : (xs ys : List ℕ) (places n : ℕ) → xs ≡ [] → ys ≡ take places xs ++ replicate n 0 → AreBelow 1 ys
below_zeros xs ys places n none is =
    let le : length xs ≤ places = omega (arith, ap length none) in
    let all : ys ≡ replicate n 0 = is ∙ ap (λ (zs : List ℕ). zs ++ replicate n 0) (take_all places xs le ∙ none) in
    subst (AreBelow 1) (sym all) (below_none 1 n (omega arith))

-- the front is below an end
abbrev pub IsFrontBelow : (end : ℕ) (xs : List ℕ) (i : ℕ) → Type 0
IsFrontBelow end xs i = (n : ℕ) → n < i → get_or xs n 0 < end
