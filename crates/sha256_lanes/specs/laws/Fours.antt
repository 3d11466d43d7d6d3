-- What is made of four elements more.
use Rattle.std.proofs.Common.{◌≡◌, ℕ, ◌+◌, ◌≤◌, List, ◌++◌, length, map, take, drop, refl, sym, ◌∙◌, arith}
use Rattle.std.proofs.lemmas.List.{map-append, take-append-drop, take-take, drop-take, length-drop, length-take-le}

-- so many elements more
taken_more : {X : Type 0} (a b : ℕ) (xs : List X) → take (a + b) xs ≡ take a xs ++ take b (drop a xs)
taken_more a b xs = sym (take-append-drop a (take (a + b) xs)) ∙ rw (take-take a (a + b) xs (omega arith), drop-take a b xs) refl

pub fours_more : {X Y : Type 0} (f : X → Y) (xs : List X) (i n : ℕ) (four found new : List Y) → n ≡ i + 4 → four ≡ map f (take 4 (drop i xs))
    → found ≡ map f (take i xs) → new ≡ found ++ four → new ≡ map f (take n xs)
fours_more f xs i n four found new e own held more =
    more ∙ rw (held, own, e, taken_more i 4 xs) (sym (map-append f (take i xs) (take 4 (drop i xs))))

pub four_left : {X : Type 0} (i : ℕ) (xs : List X) → i + 4 ≤ length xs → length (take 4 (drop i xs)) ≡ 4
four_left i xs h = length-take-le 4 (drop i xs) (omega (arith, length-drop i xs))
