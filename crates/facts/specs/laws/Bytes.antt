-- Lists of bytes, joined and split.
use Rattle.std.proofs.Common.{◌≡◌, ℕ, zero, suc, ◌+◌, ◌<◌, List, [], ◌∷◌, take, drop, arith}
use Rattle.std.proofs.lemmas.List.{get_or-drop}
use Rattle.facts.specs.Bytes.{AreBytes}

pub cons-bytes : (x : ℕ) (xs : List ℕ) → x < 256 → AreBytes xs → AreBytes (x ∷ xs)
cons-bytes x xs here rest zero = here
cons-bytes x xs here rest (suc k) = rest k

pub take-bytes : (n : ℕ) (xs : List ℕ) → AreBytes xs → AreBytes (take n xs)
take-bytes zero xs small = λ k. omega arith
take-bytes (suc n) [] small = λ k. omega arith
take-bytes (suc n) (x ∷ xs) small = cons-bytes x (take n xs) (small 0) (take-bytes n xs (λ i. small (suc i)))

pub drop-bytes : (n : ℕ) (xs : List ℕ) → AreBytes xs → AreBytes (drop n xs)
drop-bytes n xs small = λ k. rw (get_or-drop n xs k 0) (small (n + k))
