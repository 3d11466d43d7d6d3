-- The numbers of ids.
use Rattle.std.specs.Prelude.{◌==◌, if◌then◌else◌}
use Rattle.std.proofs.Common.{◌≡◌, ℕ, ◌+◌, ◌<◌, Bool, true, false, Option, Some, List, [], ◌∷◌, ◌++◌, length, get_or, take, drop, refl, ap, sym, ◌∙◌, arith, eq-eqb}
use Rattle.std.proofs.Math.ListN.{set}
use Rattle.std.proofs.lemmas.Bool.Decides.{nat_tests}
use Rattle.std.proofs.lemmas.List.{take-append-drop, take-set, drop-set, drop_more, get_or_default}
use Rattle.dictionary.specs.declared.current.CurrentList.{CurrentList}
use Rattle.dictionary.specs.Kept.{number_in}
use Rattle.dictionary.specs.inner.Numbers.{numbered, with_number, IsPlace}

number_step : (here this that : Bool) (id n other : ℕ) (c : CurrentList) (numbers more : List CurrentList) → (c.id == other) ≡ that → (id == other) ≡ this → (here ≡ true → this ≡ that) → (here ≡ false → this ≡ true → that ≡ false)
    → number_in other more ≡ (if this then Some n else number_in other numbers)
    → number_in other (if here then numbered id n ∷ numbers else c ∷ more) ≡ (if this then Some n else (if that then Some c.number else number_in other numbers))
number_step true true that id n other c numbers more et ei same apart rest = rw ei refl
number_step true false true id n other c numbers more et ei same apart rest = absurd (let e : false ≡ true = same refl in cc)
number_step true false false id n other c numbers more et ei same apart rest = rw ei refl
number_step false true true id n other c numbers more et ei same apart rest = absurd (let e : true ≡ false = apart refl refl in cc)
number_step false false true id n other c numbers more et ei same apart rest = rw et refl
number_step false true false id n other c numbers more et ei same apart rest = rw et rest
number_step false false false id n other c numbers more et ei same apart rest = rw et rest

same_test : (a b c : ℕ) → (a == b) ≡ true → (b == c) ≡ (a == c)
same_test a b c h = grind (arith, nat_tests)

other_test : (a b c : ℕ) → (a == b) ≡ false → (b == c) ≡ true → (a == c) ≡ false
other_test a b c h k = grind (arith, nat_tests)

-- one id has the number that it is given, and the others theirs
pub number_is : (id n other : ℕ) (numbers : List CurrentList) → number_in other (with_number id n numbers) ≡ (if id == other then Some n else number_in other numbers)
number_is id n other [] = refl
number_is id n other (c ∷ numbers) =
    number_step (c.id == id) (id == other) (c.id == other) id n other c numbers (with_number id n numbers) refl refl (same_test c.id id other) (other_test c.id id other) (number_is id n other numbers)

-- ---- where the number of an id stands

here : (test : Bool) (id n : ℕ) (c : CurrentList) (numbers more : List CurrentList) → test ≡ true → (if test then numbered id n ∷ numbers else c ∷ more) ≡ numbered id n ∷ numbers
here true id n c numbers more h = refl
here false id n c numbers more h = absurd cc

here_number : (test : Bool) (n : ℕ) (other : Option ℕ) → test ≡ true → (if test then Some n else other) ≡ Some n
here_number true n other h = refl
here_number false n other h = absurd cc

set_is : (numbers : List CurrentList) (i : ℕ) (c : CurrentList) → i < length numbers → set numbers i c ≡ take i numbers ++ c ∷ drop (i + 1) numbers
set_is numbers i c lt =
    sym (take-append-drop i (set numbers i c)) ∙ ap (λ (xs : List CurrentList). xs ++ drop i (set numbers i c)) (take-set numbers i c)
    ∙ ap (λ (xs : List CurrentList). take i numbers ++ xs) (drop-set numbers i c lt)

pub place_found : (numbers : List CurrentList) (i id : ℕ) (d : CurrentList) → i < length numbers → (get_or numbers i d).id ≡ id → number_in id numbers ≡ number_in id (drop i numbers)
    → ((n : ℕ) → with_number id n numbers ≡ take i numbers ++ with_number id n (drop i numbers)) → IsPlace id numbers (Some i)
place_found numbers i id d lt is same kept =
    let next : drop i numbers ≡ get_or numbers i d ∷ drop (i + 1) numbers = drop_more numbers i d lt in
    let test : ((get_or numbers i d).id == id) ≡ true = eq-eqb (get_or numbers i d).id id is in (
      lt,
      λ n. kept n ∙ ap (λ (xs : List CurrentList). take i numbers ++ with_number id n xs) next
          ∙ ap (λ (xs : List CurrentList). take i numbers ++ xs) (here ((get_or numbers i d).id == id) id n (get_or numbers i d) (drop (i + 1) numbers) (with_number id n (drop (i + 1) numbers)) test)
          ∙ sym (set_is numbers i (numbered id n) lt),
      λ c. same ∙ ap (number_in id) next ∙ here_number ((get_or numbers i d).id == id) (get_or numbers i d).number (number_in id (drop (i + 1) numbers)) test
          ∙ ap (λ (x : CurrentList). Some x.number) (get_or_default numbers i d c lt),
    )
