-- Places that are written as their sums with a first number: one that is written, and those that are taken back.
use Rattle.std.specs.Prelude.{Some, None, get_or, nat_lt, replicate}
use Rattle.std.proofs.Common.{◌≡◌, ◌<◌, ℕ, zero, suc, ◌+◌, ◌-◌, false, List, [], ◌∷◌, map, refl, ap, arith}
use Rattle.std.proofs.lemmas.Bool.{le-ltb, lt-ltb}
use Rattle.dictionary_codes.specs.inner.PlaceFrom.{AreBelow, place_from}

pub below_none : (end n : ℕ) → 0 < end → AreBelow end (replicate n 0)
below_none end zero lt m = lt
below_none end (suc n) lt zero = lt
below_none end (suc n) lt (suc m) = below_none end n lt m

-- a place that was written
pub place_written : (first place : ℕ) → place_from first (first + place) ≡ Some place
place_written first place =
    let within : nat_lt (first + place) first ≡ false = le-ltb (first + place) first (omega arith) in
    let same : first + place - first ≡ place = omega arith in
    rw within (ap Some same)

no_place : (first written : ℕ) → written < first → place_from first written ≡ None
no_place first written lt = rw (lt-ltb written first lt) refl

-- if all are below the first number, none has a place
pub none_placed : (first : ℕ) (xs : List ℕ) (n : ℕ) → AreBelow first xs → get_or (map (place_from first) xs) n None ≡ None
none_placed first [] zero h = refl
none_placed first [] (suc n) h = refl
none_placed first (x ∷ xs) zero h = no_place first x (h 0)
none_placed first (x ∷ xs) (suc n) h = none_placed first xs n (λ m. h (suc m))
