-- Parts of bytes are bytes.
use Rattle.std.specs.Prelude.{nat_lt}
use Rattle.std.proofs.Common.{◌≡◌, ℕ, zero, suc, true, List, [], ◌∷◌, take, drop, refl}
use Rattle.std.proofs.lemmas.Bool.{and_parts, and_from}
use Rattle.arrays.specs.Bytes.{are_bytes}

pub are_bytes-take : (n : ℕ) (xs : List ℕ) → are_bytes xs ≡ true → are_bytes (take n xs) ≡ true
are_bytes-take zero xs h = refl
are_bytes-take (suc n) [] h = refl
are_bytes-take (suc n) (x ∷ xs) h = let p = and_parts (nat_lt x 256) (are_bytes xs) h in and_from _ _ p.0 (are_bytes-take n xs p.1)

pub are_bytes-drop : (n : ℕ) (xs : List ℕ) → are_bytes xs ≡ true → are_bytes (drop n xs) ≡ true
are_bytes-drop zero xs h = h
are_bytes-drop (suc n) [] h = refl
are_bytes-drop (suc n) (x ∷ xs) h = are_bytes-drop n xs (and_parts (nat_lt x 256) (are_bytes xs) h).1
