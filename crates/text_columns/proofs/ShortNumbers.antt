-- Numbers of JSON of a few digits.
use Rattle.std.specs.Prelude.{pos, neg_ℤ, ◌==◌, nat_le, option_and_then, slice_index, Some}
use Rattle.std.specs.Char.{digit_value, is_ascii_digit}
use Rattle.std.specs.List.{list_all}
use Rattle.std.specs.Str.Parse.{AllDigits, digits_value}
use Rattle.std.proofs.Common.{◌≡◌, ℕ, ◌-◌, ◌^◌, ◌≤◌, ◌<◌, true, false, List, [], ◌∷◌, ◌++◌, length, refl, arith, ap, sym, subst, ◌∙◌, append-nil}
use Rattle.std.proofs.lemmas.Bool.{and_parts, le-leb, leb-true, lt-ltb, ne_eqb}
use Rattle.std.proofs.lemmas.Str.{digit_value_digit}
use Rattle.std.proofs.lemmas.List.{take_rest}
use Rattle.fast_float.specs.Text.{IsWellFormed, Parts, digits_of, scan}
use Rattle.fast_float.proofs.Writing.{scan-text_of}
use Rattle.serde_json.specs.Data.{negative, unsigned}
use Rattle.serde_json.specs.Find.{as_integer}
use Rattle.serde_json.specs.Read.{number_of}
use Rattle.text_columns.specs.inner.Lines.{integer_in}
use Rattle.text_columns.specs.inner.Plain.{AreDigits}

digit_small : (b : ℕ) → is_ascii_digit b ≡ true → digit_value b < 10
digit_small b h =
    let p = and_parts (nat_le 48 b) (nat_le b 57) h in
    let low = leb-true 48 b p.0 in
    let high = leb-true b 57 p.1 in
    omega (arith, digit_value_digit b (low, high))

all_small : (xs : List ℕ) → list_all is_ascii_digit xs ≡ true → AllDigits 10 xs
all_small [] h = tt
all_small (x ∷ xs) h = let p = and_parts (is_ascii_digit x) (list_all is_ascii_digit xs) h in (digit_small x p.0, all_small xs p.1)

-- the parts of a number that is only digits
abbrev whole : List ℕ → Parts
whole ds = record { whole = ds; point = false; fraction = []; exponent_negative = false; exponent = []; len = length (ds ++ []) }

whole_scanned : (ds : List ℕ) → list_all is_ascii_digit ds ≡ true → scan ds ≡ whole ds
whole_scanned ds h =
    let formed : IsWellFormed (whole ds) = record { whole_digits = all_small ds h; fraction_digits = tt; exponent_digits = tt; no_point = λ _. refl; no_exponent = λ _. refl; len_is = refl } in
    ap scan (sym (append-nil ds)) ∙ scan-text_of (whole ds) formed

whole_value : (ds : List ℕ) → digits_of (whole ds) ≡ digits_value 10 ds
whole_value ds = ap (digits_value 10) (append-nil ds)

no_minus : (x : ℕ) → is_ascii_digit x ≡ true → (x == 45) ≡ false
no_minus x h = ne_eqb x 45 (λ e. (let low = leb-true 48 x (and_parts (nat_le 48 x) (nat_le x 57) h).0 in omega arith))

unsigned_read : (ds : List ℕ) (n : ℕ) → 0 < length ds → list_all is_ascii_digit ds ≡ true → n ≡ digits_value 10 ds → n < 2 ^ 63 → number_of ds ≡ Some (unsigned n)
unfolding number_of
unsigned_read [] n some h is few = absurd (omega arith)
unsigned_read (x ∷ xs) n some h is few =
    let ds = x ∷ xs in
    let sign = no_minus x (and_parts (is_ascii_digit x) (list_all is_ascii_digit xs) h).0 in
    let value : digits_of (whole ds) ≡ n = whole_value ds ∙ sym is in
    let room : n < 2 ^ 64 = omega arith in
    rw sign (rw (whole_scanned ds h) (rw (value, lt-ltb 0 (length ds) some, lt-ltb n (2 ^ 64) room) refl))

negative_read : (ds : List ℕ) (n : ℕ) → 0 < length ds → list_all is_ascii_digit ds ≡ true → n ≡ digits_value 10 ds → 0 < n → n < 2 ^ 63 → number_of (45 ∷ ds) ≡ Some (negative (neg_ℤ (pos n)))
unfolding number_of
negative_read ds n some h is positive few =
    let value : digits_of (whole ds) ≡ n = whole_value ds ∙ sym is in
    let room : n ≤ 2 ^ 63 = omega arith in
    rw (whole_scanned ds h) (rw (value, lt-ltb 0 (length ds) some, lt-ltb 0 n positive, le-leb n (2 ^ 63) room) refl)

pub unsigned_integer : (text : List ℕ) (n : ℕ) → AreDigits text 0 (length text) n → 0 < length text → n < 2 ^ 63 → integer_in text ≡ Some (pos n)
unsigned_integer text n h some few =
    let all : list_all is_ascii_digit text ≡ true = subst (λ (ds : List ℕ). list_all is_ascii_digit ds ≡ true) (take_rest text 0) h.digits in
    let value : n ≡ digits_value 10 text = h.spelled ∙ ap (digits_value 10) (take_rest text 0) in
    ap (option_and_then as_integer) (unsigned_read text n some all value few)

pub negative_integer : (text : List ℕ) (n : ℕ) → slice_index text 0 ≡ 45 → AreDigits text 1 (length text) n → 1 < length text → 0 < n → n < 2 ^ 63 → integer_in text ≡ Some (neg_ℤ (pos n))
negative_integer [] n minus h some positive few = absurd (omega arith)
negative_integer (x ∷ xs) n minus h some positive few =
    let all : list_all is_ascii_digit xs ≡ true = subst (λ (ds : List ℕ). list_all is_ascii_digit ds ≡ true) (take_rest (x ∷ xs) 1) h.digits in
    let value : n ≡ digits_value 10 xs = h.spelled ∙ ap (digits_value 10) (take_rest (x ∷ xs) 1) in
    ap integer_in (ap (λ (y : ℕ). y ∷ xs) minus) ∙ ap (option_and_then as_integer) (negative_read xs n (omega arith) all value positive few)
