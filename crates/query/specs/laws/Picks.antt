-- The elements at distinct places of a list: they have what all elements have, and weigh no more than these.
use Rattle.std.proofs.Common.{◌≡◌, ◌≢◌, ℕ, zero, suc, ◌≤◌, ◌==◌, Bool, true, false, List, [], ◌∷◌, map, refl, sym, ap, ◌∙◌, arith}
use Rattle.std.proofs.Math.ListN.{set}
use Rattle.std.specs.Prelude.{Option, Some, None, option_map, not, slice_get, sum_by}
use Rattle.std.specs.List.{cons_option, list_all, list_any}
use Rattle.std.proofs.lemmas.Bool.{and_parts, and_from, or_parts, eqb-false, not-true}
use Rattle.std.proofs.lemmas.List.Sums.{sum_by-cons, sum_by-set, sum-map}
use Rattle.std.proofs.lemmas.Option.{slice_get-map, slice_get_within, get_or_from_slice_get}
use Rattle.query.specs.Selection.{pick, is_distinct}

cons_map : {X Y : Type 0} (f : X → Y) (o : Option X) (ys : List X) → cons_option (option_map f o) (map f ys) ≡ map f (cons_option o ys)
cons_map f None ys = refl
cons_map f (Some x) ys = refl

pub pick-map : {X Y : Type 0} (f : X → Y) (ps : List ℕ) (xs : List X) → pick ps (map f xs) ≡ map f (pick ps xs)
pick-map f [] xs = refl
pick-map f (p ∷ ps) xs = rw (slice_get-map f xs p, pick-map f ps xs) (cons_map f (slice_get xs p) (pick ps xs))

-- a place that is not written
get-set_other : (ws : List ℕ) (p q y : ℕ) → p ≢ q → slice_get (set ws p y) q ≡ slice_get ws q
get-set_other [] p q y h = refl
get-set_other (w ∷ ws) zero zero y h = absurd (h refl)
get-set_other (w ∷ ws) zero (suc q) y h = refl
get-set_other (w ∷ ws) (suc p) zero y h = refl
get-set_other (w ∷ ws) (suc p) (suc q) y h = get-set_other ws p q y (λ e. h (ap suc e))

pick-set_other : (ps : List ℕ) (ws : List ℕ) (p y : ℕ) → list_any (λ q. p == q) ps ≡ false → pick ps (set ws p y) ≡ pick ps ws
pick-set_other [] ws p y h = refl
pick-set_other (q ∷ ps) ws p y h =
    let both = or_parts (p == q) (list_any (λ q. p == q) ps) h in
    rw (get-set_other ws p q y (eqb-false p q both.0), pick-set_other ps ws p y both.1) refl

abbrev total : List ℕ → ℕ
total ws = sum_by (λ x. x) ws

total-cons : (p : ℕ) (ps ws : List ℕ) → list_any (λ q. p == q) ps ≡ false → ((vs : List ℕ) → total (pick ps vs) ≤ total vs) → (o : Option ℕ) → slice_get ws p ≡ o
    → total (cons_option o (pick ps ws)) ≤ total ws
total-cons p ps ws other less None e = less ws
total-cons p ps ws other less (Some x) e =
    let within = slice_get_within ws p x e in
    let here = get_or_from_slice_get ws p x 0 e in
    let rest : total (pick ps (set ws p 0)) ≤ total (set ws p 0) = less (set ws p 0) in
    let same : total (pick ps (set ws p 0)) ≡ total (pick ps ws) = ap total (pick-set_other ps ws p 0 other) in
    let moved = sum_by-set (λ (y : ℕ). y) ws p 0 0 within in
    let first = sum_by-cons (λ (y : ℕ). y) x (pick ps ws) in
    omega (arith, rest, same, moved, first, here)

total-pick : (ps ws : List ℕ) → is_distinct ps ≡ true → total (pick ps ws) ≤ total ws
total-pick [] ws d = omega arith
total-pick (p ∷ ps) ws d =
    let both = and_parts (not (list_any (λ q. p == q) ps)) (is_distinct ps) d in
    total-cons p ps ws (not-true (list_any (λ q. p == q) ps) both.0) (λ vs. total-pick ps vs both.1) (slice_get ws p) refl

-- a sum over the elements at distinct places is at most the whole
pub sum_by-pick : {X : Type 0} (f : X → ℕ) (ps : List ℕ) (xs : List X) → is_distinct ps ≡ true → sum_by f (pick ps xs) ≤ sum_by f xs
sum_by-pick f ps xs d =
    let whole = sum-map f xs in
    let part = sum-map f (pick ps xs) in
    let moved = ap total (pick-map f ps xs) in
    omega (arith, whole, part, moved, total-pick ps (map f xs) d)

-- what holds for all elements holds for each
all_at : {X : Type 0} (p : X → Bool) (xs : List X) (k : ℕ) (x : X) → list_all p xs ≡ true → slice_get xs k ≡ Some x → p x ≡ true
all_at p [] k x h e = cc
all_at p (y ∷ ys) zero x h e = let same : y ≡ x = cc in ap p (sym same) ∙ (and_parts (p y) (list_all p ys) h).0
all_at p (y ∷ ys) (suc k) x h e = all_at p ys k x (and_parts (p y) (list_all p ys) h).1 e

all_cons : {X : Type 0} (p : X → Bool) (xs : List X) (k : ℕ) (ys : List X) → list_all p xs ≡ true → list_all p ys ≡ true → (o : Option X) → slice_get xs k ≡ o
    → list_all p (cons_option o ys) ≡ true
all_cons p xs k ys h rest None e = rest
all_cons p xs k ys h rest (Some x) e = and_from _ _ (all_at p xs k x h e) rest

pub list_all-pick : {X : Type 0} (p : X → Bool) (ps : List ℕ) (xs : List X) → list_all p xs ≡ true → list_all p (pick ps xs) ≡ true
list_all-pick p [] xs h = refl
list_all-pick p (k ∷ ps) xs h = all_cons p xs k (pick ps xs) h (list_all-pick p ps xs h) (slice_get xs k) refl
