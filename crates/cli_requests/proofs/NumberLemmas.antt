-- A word that `parse` reads as a number of 64 bits, without a sign, has digits alone.
use Rattle.std.proofs.Common.{◌≡◌, ◌∙◌, ◌<◌, ◌^◌, ◌==◌, ℕ, Bool, true, false, refl, sym, subst, [], ◌∷◌, length, lt-ltb, ltb-true, eqb-true, true≢false, slice_index}
use Rattle.std.proofs.lemmas.Bool.{and_parts, and_from}
use Rattle.std.specs.Prelude.{nat_lt, IfOk, IsOk, Result, Ok, Err}
use Rattle.std.specs.Char.{digit_value}
use Rattle.std.specs.List.{list_all}
use Rattle.std.specs.Str.Parse.{AllDigits, IsNumeral, ParsesUnsigned, digits_value, without_leading_plus}
use Rattle.clap.specs.Words.{Text}
use Rattle.cli_requests.specs.Numbers.{is_number, IsNumber}

all_digits : (ds : Text) → AllDigits 10 ds → list_all (λ c. nat_lt (digit_value c) 10) ds ≡ true
all_digits [] is = refl
all_digits (c ∷ cs) is = and_from _ _ (lt-ltb (digit_value c) 10 is.0) (all_digits cs is.1)

digits_all : (ds : Text) → list_all (λ c. nat_lt (digit_value c) 10) ds ≡ true → AllDigits 10 ds
digits_all [] is = tt
digits_all (c ∷ cs) is = let p = and_parts (nat_lt (digit_value c) 10) _ is in (ltb-true (digit_value c) 10 p.0, digits_all cs p.1)

pub numeral_number : (ds : Text) → IsNumeral 10 ds → digits_value 10 ds < 2 ^ 64 → is_number ds ≡ true
unfolding is_number
numeral_number ds is small = and_from _ _ (lt-ltb 0 (length ds) is.0) (and_from _ _ (all_digits ds is.1) (lt-ltb (digits_value 10 ds) (2 ^ 64) small))

pub number_numeral : (ds : Text) → is_number ds ≡ true → IsNumeral 10 ds × (digits_value 10 ds < 2 ^ 64)
unfolding is_number
number_numeral ds is =
    let some = and_parts (nat_lt 0 (length ds)) _ is in
    let all = and_parts (list_all (λ c. nat_lt (digit_value c) 10) ds) _ some.1 in
    ((ltb-true 0 (length ds) some.0, digits_all ds all.0), ltb-true (digits_value 10 ds) (2 ^ 64) all.1)

-- a word whose first byte is no plus sign, as `parse` reads it
without_sign : (word : Text) (sign : Bool) → sign ≡ (slice_index word 0 == 43) → sign ≡ false → without_leading_plus word ≡ word
without_sign word sign is unsigned = rw (sym is ∙ unsigned) refl

pub read_number : {E : Type 0} (word : Text) (sign : Bool) (r : Result ℕ E) → sign ≡ (slice_index word 0 == 43) → sign ≡ false → ParsesUnsigned 64 10 word r
    → IfOk r (IsNumber word)
read_number word sign (Ok n) is unsigned parsed =
    let p = subst (λ (t : Text). (IsNumeral 10 t × (digits_value 10 t < 2 ^ 64)) × (n ≡ digits_value 10 t)) (without_sign word sign is unsigned) parsed in
    (numeral_number word p.0.0 p.0.1, sym p.1)
read_number word sign (Err e) is unsigned parsed = tt

pub number_read : {E : Type 0} (word : Text) (sign : Bool) (r : Result ℕ E) → sign ≡ (slice_index word 0 == 43) → sign ≡ false → ParsesUnsigned 64 10 word r
    → is_number word ≡ true → IsOk r
number_read word sign (Ok n) is unsigned parsed digits = refl
number_read word sign (Err e) is unsigned parsed digits =
    absurd (parsed (subst (λ (t : Text). IsNumeral 10 t × (digits_value 10 t < 2 ^ 64)) (sym (without_sign word sign is unsigned)) (number_numeral word digits)))

pub signed_is_none : (word : Text) (sign : Bool) → sign ≡ (slice_index word 0 == 43) → sign ≡ true → is_number word ≡ true → ⊥
unfolding is_number
signed_is_none [] sign is signed digits = true≢false (sym digits)
signed_is_none (c ∷ cs) sign is signed digits =
    let first : c ≡ 43 = eqb-true c 43 (sym is ∙ signed) in
    let all = and_parts (list_all (λ d. nat_lt (digit_value d) 10) (c ∷ cs)) _ (and_parts (nat_lt 0 (length (c ∷ cs))) _ digits).1 in
    let plus : list_all (λ d. nat_lt (digit_value d) 10) (43 ∷ cs) ≡ true =
    subst (λ (x : ℕ). list_all (λ d. nat_lt (digit_value d) 10) (x ∷ cs) ≡ true) first all.0 in
    true≢false (sym plus)
