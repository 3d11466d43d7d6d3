-- Lists up to a place and from a place on, joined lists, and lists made from each item.
use Rattle.std.specs.List.{AllByRecursion, flat_map, list_all, list_any, position_from, range_with_len}
use Rattle.std.specs.Prelude.{slice_get}
use Rattle.std.proofs.Common.{inl, inr, ◌≡◌, ℕ, zero, suc, ◌+◌, ◌<◌, ◌≤◌, Bool, true, false, List, [], ◌∷◌, ◌++◌, map, length, get_or, take, drop, Some, None, refl, ap, sym, ◌∙◌, arith}
use Rattle.std.proofs.lemmas.Bool.{and_from, and_parts, or_parts}
use Rattle.std.proofs.lemmas.List.{append-nil, drop_all, drop_more, take_more}
use Rattle.std.proofs.lemmas.List.Concat.{flat_map-append, flat_map-cons}
use Rattle.std.proofs.lemmas.List.Folds.{list_all-append, list_any-append}
use Rattle.std.proofs.lemmas.Option.{slice_get_cases, slice_get_within, get_or_from_slice_get}

-- the item that a loop is at, followed by what is left
pub drop-item : {X : Type 0} (xs : List X) (i : ℕ) (x : X) → i < length xs → x ≡ get_or xs i x → drop i xs ≡ x ∷ drop (i + 1) xs
drop-item xs i x within is = drop_more xs i x within ∙ ap (λ y. y ∷ drop (i + 1) xs) (sym is)

-- the items that a loop has seen, with the one that it is at
pub take-item : {X : Type 0} (xs : List X) (i : ℕ) (x : X) → i < length xs → x ≡ get_or xs i x → take (i + 1) xs ≡ take i xs ++ x ∷ []
take-item xs i x within is = take_more xs i x within ∙ ap (λ y. take i xs ++ y ∷ []) (sym is)

-- what an iterator has left: nothing if there is no item at its place, and otherwise that item and those after it
pub none_left : {X : Type 0} (xs : List X) (i : ℕ) → None ≡ slice_get xs i → drop i xs ≡ []
none_left xs i h = elim (slice_get_cases xs i).1 [ inl some ↦ (let there = some.2 in cc) | inr past ↦ drop_all i xs past.0 ]

pub next_left : {X : Type 0} (xs : List X) (i : ℕ) (x : X) → Some x ≡ slice_get xs i → drop i xs ≡ x ∷ drop (i + 1) xs
next_left {X = X} xs i x h =
    drop_more xs i x (slice_get_within xs i x (sym h)) ∙ ap (λ (y : X). y ∷ drop (i + 1) xs) (get_or_from_slice_get xs i x x (sym h))

-- what holds of each item still holds with one more that it holds of
pub all_more : {X : Type 0} (P : X → Type 0) (xs : List X) (x : X) → AllByRecursion P xs → P x → AllByRecursion P (xs ++ x ∷ [])
all_more P [] x all here = (here, tt)
all_more P (y ∷ ys) x all here = (all.0, all_more P ys x all.1 here)

-- if no item of two joined lists passes, none of either does
pub any_left : {A : Type 0} (p : A → Bool) (xs ys : List A) → list_any p (xs ++ ys) ≡ false → list_any p xs ≡ false
any_left p xs ys h = (or_parts _ _ (sym (list_any-append p xs ys) ∙ h)).0

pub any_right : {A : Type 0} (p : A → Bool) (xs ys : List A) → list_any p (xs ++ ys) ≡ false → list_any p ys ≡ false
any_right p xs ys h = (or_parts _ _ (sym (list_any-append p xs ys) ∙ h)).1

-- m numbers, followed by n more
pub range-append : (a m n : ℕ) → range_with_len a (m + n) ≡ range_with_len a m ++ range_with_len (a + m) n
range-append a zero n = let e : 0 + n ≡ n = omega arith in let g : a + 0 ≡ a = omega arith in rw (e, g) refl
range-append a (suc m) n =
    let e : suc m + n ≡ suc (m + n) = omega arith in
    let g : a + suc m ≡ a + 1 + m = omega arith in
    rw (e, g) (ap (λ (xs : List ℕ). a ∷ xs) (range-append (a + 1) m n))

-- no number of a range passes
pub none_in_range : (p : ℕ → Bool) (start n : ℕ) → ((i : ℕ) → start ≤ i → i < start + n → p i ≡ false) → list_any p (range_with_len start n) ≡ false
none_in_range p start zero none = refl
none_in_range p start (suc n) none =
    let here : p start ≡ false = none start (omega arith) (omega arith) in
    rw here (none_in_range p (start + 1) n (λ i low high. none i (omega arith) (omega arith)))

-- what no item passes is nowhere
pub nowhere_from : {X : Type 0} (p : X → Bool) (xs : List X) (i : ℕ) → ((x : X) → p x ≡ false) → position_from p i xs ≡ None
nowhere_from p [] i never = refl
nowhere_from p (x ∷ xs) i never = rw (never x) (nowhere_from p xs (i + 1) never)

-- functions that agree map a list alike
pub maps_same : {X Y : Type 0} (f g : X → Y) → ((x : X) → f x ≡ g x) → (xs : List X) → map f xs ≡ map g xs
maps_same f g h [] = refl
maps_same f g h (x ∷ xs) = rw (h x, maps_same f g h xs) refl

-- one function after another
pub map_map : {X Y Z : Type 0} (f : Y → Z) (g : X → Y) (xs : List X) → map f (map g xs) ≡ map (λ x. f (g x)) xs
map_map f g [] = refl
map_map f g (x ∷ xs) = ap (λ zs. f (g x) ∷ zs) (map_map f g xs)

-- the lists made from one item more, and from the one that a loop is at
pub flat_map-push : {X A : Type 0} (f : X → List A) (xs : List X) (x : X) → flat_map f (xs ++ x ∷ []) ≡ flat_map f xs ++ f x
flat_map-push f xs x = flat_map-append f xs (x ∷ []) ∙ ap (λ ys. flat_map f xs ++ ys) (flat_map-cons f x [] ∙ append-nil (f x))

pub flat_map-item : {X A : Type 0} (f : X → List A) (xs : List X) (i : ℕ) (x : X) → i < length xs → x ≡ get_or xs i x → flat_map f (take (i + 1) xs) ≡ flat_map f (take i xs) ++ f x
flat_map-item f xs i x within is = ap (flat_map f) (take-item xs i x within is) ∙ flat_map-push f (take i xs) x

-- if all items pass a test, so do they with one more that passes, and with the one that a loop is at
pub all_pushed : {X : Type 0} (p : X → Bool) (xs : List X) (x : X) → list_all p xs ≡ true → p x ≡ true → list_all p (xs ++ x ∷ []) ≡ true
all_pushed p xs x all here = list_all-append p xs (x ∷ []) ∙ and_from _ _ all (and_from _ _ here refl)

pub all_with_item : {X : Type 0} (p : X → Bool) (xs : List X) (i : ℕ) (x : X) → i < length xs → x ≡ get_or xs i x → list_all p (take (i + 1) xs) ≡ true
    → (list_all p (take i xs) ≡ true) × (p x ≡ true)
all_with_item p xs i x within is all =
    let both = and_parts (list_all p (take i xs)) (list_all p (x ∷ [])) (sym (list_all-append p (take i xs) (x ∷ [])) ∙ ap (list_all p) (sym (take-item xs i x within is)) ∙ all) in
    (both.0, (and_parts (p x) true both.1).0)
