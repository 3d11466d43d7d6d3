-- Bytes that are written over others, by n for each item of a list.
use Rattle.std.specs.List.{flat_map}
use Rattle.std.proofs.Common.{◌≡◌, ◌<◌, ◌≤◌, ◌+◌, ◌*◌, ◌++◌, ◌∙◌, ℕ, List, arith, get_or, length, length-append, refl, sym, take}
use Rattle.std.proofs.lemmas.Grind.{flat_map-append}
use Rattle.std.proofs.lemmas.List.{append_assoc, append-nil, length-take-le, take_at, take_more}

-- the bytes of one more
pub one_more : {A : Type 0} (none : A) (f : A → List ℕ) (size i : ℕ) (xs : List A) (old bytes rest : List ℕ) → i < length xs → length bytes ≡ size
    → bytes ≡ f (get_or xs i none) → size * i ≤ length old → take (size * i) old ≡ flat_map f (take i xs)
    → take (size * (i + 1)) (take (size * i) old ++ (bytes ++ rest)) ≡ flat_map f (take (i + 1) xs)
one_more none f size i xs old bytes rest lt len is room before =
    let front : List ℕ = take (size * i) old in
    let e : size * (i + 1) ≡ size * i + size = omega arith in
    let lf : length front ≡ size * i = length-take-le (size * i) old room in
    let whole : front ++ (bytes ++ rest) ≡ (front ++ bytes) ++ rest = sym (append_assoc front bytes rest) in
    let lw : length (front ++ bytes) ≡ size * i + size = length-append front bytes ∙ rw (lf, len) refl in
    rw (e, whole, take_at (front ++ bytes) rest (size * i + size) lw, before, is, take_more xs i none lt, flat_map-append, append-nil) refl
