-- Masks that are joined, test by test.
use Rattle.std.proofs.Common.{◌≡◌, ℕ, zero, suc, ◌+◌, Bool, true, false, List, [], ◌∷◌, ◌++◌, map, length, take, get_or, replicate, refl, sym, ap, subst, ◌∙◌, arith}
use Rattle.std.specs.Prelude.{◌&&◌, ◌<◌, nat_lt, slice_index_or}
use Rattle.std.proofs.lemmas.List.{length-map, take_more}
use Rattle.std.proofs.lemmas.Bool.{and_right, lt-ltb}
use Rattle.std.proofs.lemmas.Bool.Decides.{nat_tests}
use Rattle.std.proofs.lemmas.List.Folds.{list_all-append}
use Rattle.std.proofs.Math.Bool.{and-true}
use Rattle.facts.specs.laws.Lists.{maps_same}
use Rattle.bitmap.specs.Bits.{bit, both, bytes_of}
use Rattle.cells.specs.Cell.{Cell}
use Rattle.query.specs.Bound.{Bound, holds}
use Rattle.query.specs.Selection.{holds_all}
use Rattle.query.specs.declared.bound.Bound as code
use Rattle.query.specs.inner.BoundView.{bound_in}
use Rattle.query.specs.inner.Masks.{IsMask}

lt-suc : (i n : ℕ) → nat_lt (suc i) (suc n) ≡ nat_lt i n
lt-suc i n = grind (arith, nat_tests)

joined_at : {X : Type 0} (p q : X → Bool) (xs : List X) (i : ℕ)
    → (nat_lt i (length xs) && (slice_index_or (map p xs) i false && slice_index_or (map q xs) i false)) ≡ slice_index_or (map (λ x. p x && q x) xs) i false
joined_at p q [] i = and_right (nat_lt i 0) false refl
joined_at p q (x ∷ xs) zero = rw (lt-ltb 0 (suc (length xs)) (omega arith)) refl
joined_at p q (x ∷ xs) (suc i) = rw (lt-suc i (length xs)) (joined_at p q xs i)

pub joined_mask : {X : Type 0} (a b c : List ℕ) (p q r : X → Bool) (xs : List X) → ((x : X) → r x ≡ (p x && q x)) → IsMask a (map p xs) → IsMask b (map q xs)
    → ((i : ℕ) → bit c i ≡ both a b (length xs) i) → length c ≡ bytes_of (length xs) → IsMask c (map r xs)
joined_mask a b c p q r xs same x y bits size = record {
  each = λ i. bits i ∙ (rw (x.each i, y.each i) (joined_at p q xs i) ∙ ap (λ (bs : List Bool). slice_index_or bs i false) (sym (maps_same r (λ z. p z && q z) same xs)));
  size = size ∙ ap bytes_of (sym (length-map xs r));
}

-- one more condition
pub one_more : (bs : List Bound) (b : Bound) (row : List Cell) → holds_all (bs ++ b ∷ []) row ≡ (holds_all bs row && holds b row)
one_more bs b row = list_all-append (λ b. holds b row) bs (b ∷ []) ∙ ap (λ (t : Bool). holds_all bs row && t) (and-true (holds b row))

-- no condition
trues : {X : Type 0} (xs : List X) → map (λ x. true) xs ≡ replicate (length xs) true
trues [] = refl
trues (x ∷ xs) = ap (λ (bs : List Bool). true ∷ bs) (trues xs)

pub all_set : {X : Type 0} (rows : List X) (mask : List ℕ) (n : ℕ) → n ≡ length rows → IsMask mask (replicate n true) → IsMask mask (map (λ x. true) rows)
all_set rows mask n count is =
    let same : replicate n true ≡ map (λ x. true) rows = ap (λ (k : ℕ). replicate k true) count ∙ sym (trues rows) in
    subst (λ (bs : List Bool). IsMask mask bs) same is

pub no_condition : (bounds : List code.Bound) (rows : List (List Cell)) (mask : List ℕ) (n : ℕ) → length bounds ≡ 0 → n ≡ length rows → IsMask mask (replicate n true)
    → IsMask mask (map (holds_all (map bound_in bounds)) rows)
no_condition [] rows mask n none count is = all_set rows mask n count is
no_condition (b ∷ bounds) rows mask n none count is = absurd (omega (arith, none))

-- the first condition alone
pub one_condition : (bounds others : List code.Bound) (b : code.Bound) (rows : List (List Cell)) (mask : List ℕ) → bounds ≡ b ∷ others → IsMask mask (map (holds (bound_in b)) rows)
    → IsMask mask (map (holds_all (map bound_in (take 1 bounds))) rows)
one_condition bounds others b rows mask e is =
    let same : map (holds (bound_in b)) rows ≡ map (holds_all (map bound_in (take 1 bounds))) rows =
    rw e (maps_same (holds (bound_in b)) (λ row. holds (bound_in b) row && true) (λ row. sym (and-true (holds (bound_in b) row))) rows) in
    subst (λ (bits : List Bool). IsMask mask bits) same is

-- a condition more, after the first
pub one_taken : (bounds others : List code.Bound) (first b : code.Bound) (k : ℕ) → bounds ≡ first ∷ others → k < length others → b ≡ get_or others k b
    → take (suc (k + 1)) bounds ≡ take (suc k) bounds ++ b ∷ []
one_taken bounds others first b k e within is =
    rw e (ap (λ (bs : List code.Bound). first ∷ bs) (take_more others k b within ∙ ap (λ (x : code.Bound). take k others ++ x ∷ []) (sym is)))

-- what flags are packed into
pub packed_mask : (mask : List ℕ) (flags bits : List Bool) → flags ≡ bits → ((i : ℕ) → bit mask i ≡ slice_index_or flags i false) → length mask ≡ bytes_of (length flags) → IsMask mask bits
packed_mask mask flags bits e at_each size = record {
  each = λ i. at_each i ∙ ap (λ (bs : List Bool). slice_index_or bs i false) e;
  size = size ∙ ap (λ (bs : List Bool). bytes_of (length bs)) e;
}
