-- Numbers in decimal digits.
use Rattle.std.proofs.Common.{◌≡◌, ℕ, zero, suc, ◌+◌, ◌/◌, ◌%◌, ◌^◌, ◌<◌, ◌≤◌, List, [], ◌∷◌, ◌++◌, ◌==◌, cond, false, map, refl, sym, ap, ◌∙◌, arith, decimal}
use Rattle.std.specs.Int.Digits.{digits_of}
use Rattle.std.proofs.lemmas.Int.Digits.{digits_of_step}
use Rattle.std.proofs.lemmas.Fmt.{decimal_by_steps}
use Rattle.std.proofs.lemmas.List.{map-append}
use Rattle.std.proofs.lemmas.Bool.{ne_eqb}
use Rattle.field_texts.specs.Keywords.{number_text}

pub number_text-small : (n : ℕ) → n < 10 → (48 + n) ∷ [] ≡ number_text n
unfolding number_text
number_text-small zero h = refl
number_text-small (suc n) h =
    let some : (suc n == 0) ≡ false = ne_eqb (suc n) 0 (omega arith) in
    let last : suc n / 10 ≡ 0 = omega arith in let rest : suc n % 10 ≡ suc n = omega arith in
    let none : digits_of 10 (suc n / 10) ≡ [] = ap (digits_of 10) last in
    let alone : digits_of 10 (suc n) ≡ suc n ∷ [] = digits_of_step 10 (suc n) (omega arith) (omega arith) ∙ ap (λ (ds : List ℕ). ds ++ suc n % 10 ∷ []) none ∙ ap (λ d. d ∷ []) rest in
    sym (ap (λ b. cond b (48 ∷ []) (map (λ d. 48 + d) (digits_of 10 (suc n)))) some ∙ ap (λ (ds : List ℕ). map (λ d. 48 + d) ds) alone)

pub number_text-step : (n : ℕ) → 10 ≤ n → number_text n ≡ number_text (n / 10) ++ (48 + n % 10) ∷ []
unfolding number_text
number_text-step n h =
    let some : (n == 0) ≡ false = ne_eqb n 0 (omega arith) in let more : (n / 10 == 0) ≡ false = ne_eqb (n / 10) 0 (omega arith) in
    rw (some, more, digits_of_step 10 n (omega arith) (omega arith)) (map-append (λ d. 48 + d) (digits_of 10 (n / 10)) (n % 10 ∷ []))

-- what `{n}` writes
pub decimal_is : (n : ℕ) → n < 2 ^ 64 → decimal n ≡ number_text n
decimal_is = decimal_by_steps (λ n (ds : List ℕ). ds ≡ number_text n) number_text-small
    (λ n (ds : List ℕ) h e. ap (λ (xs : List ℕ). xs ++ (48 + n % 10) ∷ []) e ∙ sym (number_text-step n h))
