-- Numbers as they are typed in.
use Rattle.std.proofs.Common.{◌≡◌, ◌≢◌, ◌<◌, ◌≤◌, ℕ, zero, suc, ◌+◌, ◌-◌, ◌*◌, ◌/◌, ◌%◌, ◌==◌, Bool, true, false, List, [], ◌∷◌, ◌++◌, map, length, get_or, drop, drop-cons, add-one, refl, sym, ap, ◌∙◌, arith}
use Rattle.std.specs.Prelude.{nat_le, not}
use Rattle.std.specs.List.{list_all, AllByRecursion}
use Rattle.std.specs.Int.Digits.{digits_of, number_from_digits, number_from_digits_after}
use Rattle.std.proofs.lemmas.Int.Digits.{digits_of_step, number_digits_of, all_below_base_digits_of, first_digits_of, number_after_ge}
use Rattle.std.proofs.lemmas.Bool.{ne_eqb, and_parts}
use Rattle.std.proofs.lemmas.Bool.Decides.{nat_tests}
use Rattle.std.proofs.lemmas.List.{append_assoc, append-nil}
use Rattle.std.proofs.Math.Bool.{or-true}
use Rattle.field_texts.specs.Keywords.{number_text}
use Rattle.field_texts.specs.inner.Scan.{is_digit, has_one_form, is_numeral, value, capped_number}

plus_back : (ds : List ℕ) → map (λ d. d - 48) (map (λ d. 48 + d) ds) ≡ ds
plus_back [] = refl
plus_back (d ∷ ds) = let same : (48 + d) - 48 ≡ d = omega arith in rw (same, plus_back ds) refl

value_positive : (n : ℕ) → 0 < n → value (number_text n) ≡ n
unfolding value number_text
value_positive n h =
    let some : (n == 0) ≡ false = ne_eqb n 0 (omega (arith, h)) in
    rw (some, plus_back (digits_of 10 n)) (number_digits_of 10 n (omega arith))

value_zero : value (number_text 0) ≡ 0
unfolding value number_text
value_zero = refl

pub value_text : (n : ℕ) → value (number_text n) ≡ n
value_text zero = value_zero
value_text (suc n) = value_positive (suc n) (omega arith)

digits : (ds : List ℕ) → AllByRecursion (λ d. d < 10) ds → list_all is_digit (map (λ d. 48 + d) ds) ≡ true
digits [] h = refl
digits (d ∷ ds) h =
    let low : nat_le 48 (48 + d) ≡ true = grind (arith, nat_tests) in
    let high : nat_le (48 + d) 57 ≡ true = grind (arith, nat_tests, h.0) in
    rw (low, high, digits ds h.1) refl

one_form : (d : ℕ) (ds : List ℕ) → (d == 48) ≡ false → has_one_form (d ∷ ds) ≡ true
one_form d ds e =
    let some : (length (d ∷ ds) == 0) ≡ false = ne_eqb (length (d ∷ ds)) 0 (omega arith) in
    rw (some, e) (or-true (length (d ∷ ds) == 1))

numeral : (ds : List ℕ) → AllByRecursion (λ d. d < 10) ds → 0 < get_or ds 0 0 → is_numeral (map (λ d. 48 + d) ds) ≡ true
unfolding is_numeral
numeral [] h first = absurd (omega (arith, first))
numeral (d ∷ ds) h first =
    let other : (48 + d == 48) ≡ false = ne_eqb (48 + d) 48 (omega (arith, first)) in
    let all : list_all is_digit (map (λ d. 48 + d) (d ∷ ds)) ≡ true = digits (d ∷ ds) h in
    rw all (one_form (48 + d) (map (λ d. 48 + d) ds) other)

numeral_positive : (n : ℕ) → 0 < n → is_numeral (number_text n) ≡ true
unfolding number_text
numeral_positive n h =
    let some : (n == 0) ≡ false = ne_eqb n 0 (omega (arith, h)) in
    rw some (numeral (digits_of 10 n) (all_below_base_digits_of 10 n (omega arith)) (first_digits_of 10 n (omega arith) h))

numeral_zero : is_numeral (number_text 0) ≡ true
unfolding number_text is_numeral
numeral_zero = refl

pub numeral_text : (n : ℕ) → is_numeral (number_text n) ≡ true
numeral_text zero = numeral_zero
numeral_text (suc n) = numeral_positive (suc n) (omega arith)

-- further digits after those of a number
digit_range : (d : ℕ) → is_digit d ≡ true → (48 ≤ d) × (d ≤ 57)
digit_range d e = grind (arith, nat_tests)

back_plus : (ds : List ℕ) → list_all is_digit ds ≡ true → map (λ d. 48 + d) (map (λ d. d - 48) ds) ≡ ds
back_plus [] e = refl
back_plus (d ∷ ds) e =
    let range : (48 ≤ d) × (d ≤ 57) = digit_range d ((and_parts (is_digit d) (list_all is_digit ds) e).0) in
    let same : 48 + (d - 48) ≡ d = omega (arith, range.0) in
    rw (same, back_plus ds ((and_parts (is_digit d) (list_all is_digit ds) e).1)) refl

below_ten : (ds : List ℕ) → list_all is_digit ds ≡ true → AllByRecursion (λ d. d < 10) (map (λ d. d - 48) ds)
below_ten [] e = tt
below_ten (d ∷ ds) e =
    let range : (48 ≤ d) × (d ≤ 57) = digit_range d ((and_parts (is_digit d) (list_all is_digit ds) e).0) in
    (omega (arith, range.1), below_ten ds ((and_parts (is_digit d) (list_all is_digit ds) e).1))

more_digits : (n : ℕ) (ds : List ℕ) → 0 < n → AllByRecursion (λ d. d < 10) ds → digits_of 10 (number_from_digits_after 10 n ds) ≡ digits_of 10 n ++ ds
more_digits n [] some h = sym (append-nil (digits_of 10 n))
more_digits n (d ∷ ds) some h =
    let opening : (n * 10 + d) / 10 ≡ n = omega (arith, h.0) in
    let last : (n * 10 + d) % 10 ≡ d = omega (arith, h.0) in
    more_digits (n * 10 + d) ds (omega (arith, some)) h.1 ∙ ap (λ (xs : List ℕ). xs ++ ds) (digits_of_step 10 (n * 10 + d) (omega arith) (omega (arith, some)) ∙ ap (λ m. digits_of 10 m ++ (n * 10 + d) % 10 ∷ []) opening ∙ ap (λ m. digits_of 10 n ++ m ∷ []) last)
    ∙ append_assoc (digits_of 10 n) (d ∷ []) ds

alone : (d : ℕ) → 0 < d → d < 10 → digits_of 10 d ≡ d ∷ []
alone d some low =
    let opening : d / 10 ≡ 0 = omega arith in let last : d % 10 ≡ d = omega arith in
    digits_of_step 10 d (omega arith) some ∙ ap (λ m. digits_of 10 m ++ d % 10 ∷ []) opening ∙ ap (λ m. m ∷ []) last

pub digits_again : (d : ℕ) (ds : List ℕ) → 0 < d → AllByRecursion (λ d. d < 10) (d ∷ ds) → digits_of 10 (number_from_digits 10 (d ∷ ds)) ≡ d ∷ ds
digits_again d ds some h = let start : 0 * 10 + d ≡ d = omega arith in ap (λ n. digits_of 10 (number_from_digits_after 10 n ds)) start ∙ more_digits d ds some h.1 ∙ ap (λ (xs : List ℕ). xs ++ ds) (alone d some h.0)

-- digits past 32 bits stay past them
pub within_after : (ds : List ℕ) (m n : ℕ) → capped_number m ≡ capped_number n → capped_number (number_from_digits_after 10 m ds) ≡ capped_number (number_from_digits_after 10 n ds)
within_after [] m n h = h
within_after (d ∷ ds) m n h = within_after ds (m * 10 + d) (n * 10 + d) (omega (arith, h))

-- one digit more
pub next_digit : (ds : List ℕ) (i n m : ℕ) → i < length ds → m ≡ capped_number (n * 10 + (get_or ds i 0 - 48))
    → capped_number (number_from_digits_after 10 m (map (λ d. d - 48) (drop (i + 1) ds))) ≡ capped_number (number_from_digits_after 10 n (map (λ d. d - 48) (drop i ds)))
next_digit ds i n m h e =
    let next : drop i ds ≡ get_or ds i 0 ∷ drop (i + 1) ds = rw (add-one i) (drop-cons ds i 0 h) in
    rw next (within_after (map (λ d. d - 48) (drop (i + 1) ds)) m (n * 10 + (get_or ds i 0 - 48)) (omega (arith, e)))

-- what numerals write is written so
text_some : (n : ℕ) (ds : List ℕ) → 0 < n → digits_of 10 n ≡ map (λ d. d - 48) ds → list_all is_digit ds ≡ true → number_text n ≡ ds
unfolding number_text
text_some n ds some e all =
    let other : (n == 0) ≡ false = ne_eqb n 0 (omega (arith, some)) in
    rw (other, e) (back_plus ds all)

number_some : (d : ℕ) (ds : List ℕ) → 0 < d → 0 < number_from_digits 10 (d ∷ ds)
number_some d ds some = omega (arith, number_after_ge 10 (0 * 10 + d) ds (omega arith))

text_zero : number_text (value (48 ∷ [])) ≡ 48 ∷ []
unfolding number_text value
text_zero = refl

text_from : (b : Bool) (d : ℕ) (ds : List ℕ) → (d == 48) ≡ b → list_all is_digit (d ∷ ds) ≡ true → has_one_form (d ∷ ds) ≡ true → number_text (value (d ∷ ds)) ≡ d ∷ ds
unfolding value
text_from true d [] e all form = let zero : d ≡ 48 = grind (arith, nat_tests) in rw zero text_zero
text_from true d (x ∷ xs) e all form =
    let two : (length (d ∷ x ∷ xs) == 1) ≡ false = ne_eqb (length (d ∷ x ∷ xs)) 1 (omega arith) in
    let none : false ≡ true = (and_parts (not (length (d ∷ x ∷ xs) == 0)) false (rw (two, e) at form)).1 in cc
text_from false d ds e all form =
    let range : (48 ≤ d) × (d ≤ 57) = digit_range d ((and_parts (is_digit d) (list_all is_digit ds) all).0) in
    let other : d ≢ 48 = λ same. cc in
    let some : 0 < d - 48 = omega (arith, range.0, other) in
    text_some _ (d ∷ ds) (number_some (d - 48) (map (λ d. d - 48) ds) some) (digits_again (d - 48) (map (λ d. d - 48) ds) some (below_ten (d ∷ ds) all)) all

pub text_value : (ds : List ℕ) → is_numeral ds ≡ true → number_text (value ds) ≡ ds
unfolding is_numeral
text_value [] h = cc
text_value (d ∷ ds) h = text_from (d == 48) d ds refl ((and_parts _ (has_one_form (d ∷ ds)) h).0) ((and_parts (list_all is_digit (d ∷ ds)) _ h).1)
