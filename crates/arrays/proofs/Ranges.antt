-- Tests of what stands at each of some numbers in a row.
use Rattle.std.specs.Prelude.{◌||◌, not, nat_lt}
use Rattle.std.specs.List.{list_any, flat_map, range_with_len}
use Rattle.std.proofs.Common.{◌≡◌, ℕ, zero, suc, ◌+◌, ◌-◌, ◌≤◌, ◌<◌, Bool, true, false, List, [], ◌∷◌, ◌++◌, length, count_by, cond, refl, arith, ap, sym, ◌∙◌}
use Rattle.std.proofs.lemmas.Bool.{or_parts}
use Rattle.std.proofs.lemmas.Bool.Decides.{nat_tests}
use Rattle.std.proofs.lemmas.List.Folds.{list_any-append}
use Rattle.std.proofs.lemmas.List.Concat.{flat_map-append}
use Rattle.std.proofs.lemmas.List.Sums.{count_by-le-length, sum_by-cons}
use Rattle.facts.specs.laws.Lists.{range-append}

-- a test of lists, one after another
pub any-joined : {A : Type 0} (f : A → Bool) (g : ℕ → List A) (xs ys : List ℕ)
    → list_any f (flat_map g (xs ++ ys)) ≡ (list_any f (flat_map g xs) || list_any f (flat_map g ys))
any-joined f g xs ys = ap (list_any f) (flat_map-append g xs ys) ∙ list_any-append f (flat_map g xs) (flat_map g ys)

-- up to a number, and from there on
pub any-split : {A : Type 0} (f : A → Bool) (g : ℕ → List A) (at end to : ℕ) → at ≤ end → end ≤ to
    → list_any f (flat_map g (range_with_len at (to - at))) ≡ (list_any f (flat_map g (range_with_len at (end - at))) || list_any f (flat_map g (range_with_len end (to - end))))
any-split f g at end to low high =
    let e : to - at ≡ (end - at) + (to - end) = omega arith in
    let h : at + (end - at) ≡ end = omega arith in
    ap (λ (n : ℕ). list_any f (flat_map g (range_with_len at n))) e
    ∙ ap (λ (xs : List ℕ). list_any f (flat_map g xs)) (range-append at (end - at) (to - end))
    ∙ any-joined f g (range_with_len at (end - at)) (range_with_len (at + (end - at)) (to - end))
    ∙ ap (λ (k : ℕ). list_any f (flat_map g (range_with_len at (end - at))) || list_any f (flat_map g (range_with_len k (to - end)))) h

or_four : (p a b c : Bool) → (p || (b || (a || c))) ≡ ((p || a) || (b || c))
or_four true a b c = refl
or_four false true true c = refl
or_four false true false c = refl
or_four false false b c = refl

-- a test of an element and of a list at each number
pub any-first_and_others : {A : Type 0} (f : A → Bool) (g : ℕ → A) (h : ℕ → List A) (xs : List ℕ)
    → list_any f (flat_map (λ i. g i ∷ h i) xs) ≡ (list_any (λ i. f (g i)) xs || list_any f (flat_map h xs))
any-first_and_others f g h [] = refl
any-first_and_others f g h (x ∷ xs) =
    ap (λ (b : Bool). f (g x) || b) (list_any-append f (h x) (flat_map (λ i. g i ∷ h i) xs) ∙ ap (λ (b : Bool). list_any f (h x) || b) (any-first_and_others f g h xs))
    ∙ or_four (f (g x)) (list_any (λ i. f (g i)) xs) (list_any f (h x)) (list_any f (flat_map h xs))
    ∙ ap (λ (b : Bool). (f (g x) || list_any (λ i. f (g i)) xs) || b) (sym (list_any-append f (h x) (flat_map h xs)))

pub or_both : (a b c d : Bool) → ((a || b) || (c || d)) ≡ ((a || c) || (b || d))
or_both true b c d = refl
or_both false true true d = refl
or_both false true false d = refl
or_both false false c d = refl

-- a test of two lists at each number
pub any-both : {A : Type 0} (f : A → Bool) (g h : ℕ → List A) (xs : List ℕ)
    → list_any f (flat_map (λ i. g i ++ h i) xs) ≡ (list_any f (flat_map g xs) || list_any f (flat_map h xs))
any-both f g h [] = refl
any-both f g h (x ∷ xs) =
    list_any-append f (g x ++ h x) (flat_map (λ i. g i ++ h i) xs)
    ∙ (λ j. list_any-append f (g x) (h x) j || any-both f g h xs j)
    ∙ or_both (list_any f (g x)) (list_any f (h x)) (list_any f (flat_map g xs)) (list_any f (flat_map h xs))
    ∙ (λ j. sym (list_any-append f (g x) (flat_map g xs)) j || sym (list_any-append f (h x) (flat_map h xs)) j)

-- what is the same at each number
pub flat_map-alike : {A : Type 0} (g h : ℕ → List A) (at n : ℕ) → ((i : ℕ) → at ≤ i → i < at + n → g i ≡ h i) → flat_map g (range_with_len at n) ≡ flat_map h (range_with_len at n)
flat_map-alike g h at zero same = refl
flat_map-alike g h at (suc n) same =
    let others : flat_map g (range_with_len (at + 1) n) ≡ flat_map h (range_with_len (at + 1) n) = flat_map-alike g h (at + 1) n (λ i low high. same i (omega arith) (omega arith)) in
    (λ j. same at (omega arith) (omega arith) j ++ others j)

pub flat_map-none : {A : Type 0} (xs : List ℕ) → flat_map (λ i. let none : List A = [] in none) xs ≡ []
flat_map-none [] = refl
flat_map-none (x ∷ xs) = flat_map-none xs

-- numbers that begin where those before them end are numbers in a row
pub flat_map-spans : {A : Type 0} (g : ℕ → List A) (s : ℕ → ℕ) (from n : ℕ) → ((i : ℕ) → from ≤ i → i < from + n → s i ≤ s (i + 1))
    → flat_map (λ i. flat_map g (range_with_len (s i) (s (i + 1) - s i))) (range_with_len from n) ≡ flat_map g (range_with_len (s from) (s (from + n) - s from))
flat_map-spans g s from zero rise = let e : from + 0 ≡ from = omega arith in let z : s from - s from ≡ 0 = omega arith in rw (e, z) refl
flat_map-spans g s from (suc n) rise =
    let e : from + suc n ≡ from + 1 + n = omega arith in
    let first : s from ≤ s (from + 1) = rise from (omega arith) (omega arith) in
    let last : s (from + 1) ≤ s (from + 1 + n) = risen s (from + 1) n (λ i low high. rise i (omega arith) (omega arith)) in
    let sum : s (from + 1 + n) - s from ≡ (s (from + 1) - s from) + (s (from + 1 + n) - s (from + 1)) = omega (arith, first, last) in
    let next : s from + (s (from + 1) - s from) ≡ s (from + 1) = omega (arith, first) in
    let others = flat_map-spans g s (from + 1) n (λ i low high. rise i (omega arith) (omega arith)) in
    ap (λ (xs : List _). flat_map g (range_with_len (s from) (s (from + 1) - s from)) ++ xs) others
    ∙ ap (λ (k : ℕ). flat_map g (range_with_len (s from) (s (from + 1) - s from)) ++ flat_map g (range_with_len k (s (from + 1 + n) - s (from + 1)))) (sym next)
    ∙ sym (flat_map-append g (range_with_len (s from) (s (from + 1) - s from)) (range_with_len (s from + (s (from + 1) - s from)) (s (from + 1 + n) - s (from + 1))))
    ∙ ap (flat_map g) (sym (range-append (s from) (s (from + 1) - s from) (s (from + 1 + n) - s (from + 1))))
    ∙ ap (λ (k : ℕ). flat_map g (range_with_len (s from) k)) (sym sum)
    ∙ ap (λ (k : ℕ). flat_map g (range_with_len (s from) (s k - s from))) (sym e)
  where
    risen : (s : ℕ → ℕ) (at n : ℕ) → ((i : ℕ) → at ≤ i → i < at + n → s i ≤ s (i + 1)) → s at ≤ s (at + n)
    risen s at zero rise = let e : at + 0 ≡ at = omega arith in rw e (omega arith)
    risen s at (suc n) rise =
        let e : at + suc n ≡ at + 1 + n = omega arith in
        let first = rise at (omega arith) (omega arith) in
        let rest = risen s (at + 1) n (λ i low high. rise i (omega arith) (omega arith)) in
        rw e (omega (arith, first, rest))

-- one of them does not pass, where fewer pass than there are
pub any-fewer : (p : ℕ → Bool) (xs : List ℕ) → list_any (λ i. not (p i)) xs ≡ nat_lt (count_by p xs) (length xs)
any-fewer p [] = refl
any-fewer p (x ∷ xs) = one_more (p x) (count_by p xs) (length xs) _ _ (count_by-le-length p xs) (any-fewer p xs) (sum_by-cons (λ y. cond (p y) 1 0) x xs)
  where
    one_more : (b : Bool) (k n c : ℕ) (r : Bool) → k ≤ n → r ≡ nat_lt k n → c ≡ cond b 1 0 + k → (not b || r) ≡ nat_lt c (suc n)
    one_more true k n c r le e h = rw (e, h) (grind (arith, nat_tests))
    one_more false k n c r le e h = grind (arith, nat_tests)

-- the next number of a loop passes, or does not
pub any-here : (p : ℕ → Bool) (at to : ℕ) → at < to → p at ≡ true → list_any p (range_with_len at (to - at)) ≡ true
any-here p at to below here = let e : to - at ≡ suc (to - (at + 1)) = omega arith in rw (e, here) refl

pub any-later : (p : ℕ → Bool) (at to : ℕ) → at < to → p at ≡ false → list_any p (range_with_len (at + 1) (to - (at + 1))) ≡ list_any p (range_with_len at (to - at))
any-later p at to below here = let e : to - at ≡ suc (to - (at + 1)) = omega arith in rw (e, here) refl

pub any-end : (p : ℕ → Bool) (at to : ℕ) → to ≤ at → list_any p (range_with_len at (to - at)) ≡ false
any-end p at to past = let e : to - at ≡ 0 = omega arith in rw e refl

-- none of some numbers passes: none of a part of them
pub any-part : (p : ℕ → Bool) (from n at m : ℕ) → list_any p (range_with_len from n) ≡ false → from ≤ at → at + m ≤ from + n → list_any p (range_with_len at m) ≡ false
any-part p from n at m none low high =
    let before : ℕ = at - from in
    let after : ℕ = from + n - (at + m) in
    let all : n ≡ before + (m + after) = omega (arith, low, high) in
    let here : from + before ≡ at = omega (arith, low) in
    let split : (list_any p (range_with_len from before) || list_any p (range_with_len (from + before) (m + after))) ≡ false =
    sym (ap (λ (k : ℕ). list_any p (range_with_len from k)) all ∙ ap (list_any p) (range-append from before (m + after))
    ∙ list_any-append p (range_with_len from before) (range_with_len (from + before) (m + after))) ∙ none in
    let rest : list_any p (range_with_len at (m + after)) ≡ false = ap (λ (k : ℕ). list_any p (range_with_len k (m + after))) (sym here) ∙ (or_parts _ _ split).1 in
    let parts : (list_any p (range_with_len at m) || list_any p (range_with_len (at + m) after)) ≡ false =
    sym (ap (list_any p) (range-append at m after) ∙ list_any-append p (range_with_len at m) (range_with_len (at + m) after)) ∙ rest in
    (or_parts _ _ parts).0
