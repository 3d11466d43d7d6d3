-- The number that `parse` reads is that of the definition.
use Rattle.std.proofs.Common.{◌≡◌, ◌≢◌, inl, inr, ◌-◌, ℕ, zero, suc, ◌^◌, ◌≤◌, ◌<◌, ◌==◌, Bool, true, false, List, length, drop, get_or, refl, sym, ◌∙◌, arith}
use Rattle.std.specs.Prelude.{ℤ, pos, neg_ℤ, int_le, int_lt, Option, Some, None, option_map, Result, Ok, Err, not, if◌then◌else◌}
use Rattle.std.specs.Option.{option_and_then}
use Rattle.std.specs.Result.{OkIff}
use Rattle.std.specs.Str.{all_ascii_digits}
use Rattle.std.specs.Str.Parse.{digits_value, ParsesSigned}
use Rattle.std.proofs.lemmas.Bool.{and_from, and_parts, and_left, and_right, not-true, not_from_false, ne_eqb, eqb-true, eqb-false, lt-leb, le-ltb, cases_lt}
use Rattle.std.proofs.lemmas.Str.Parse.{IsNumeralModel, numerals_by_value, tells_all_ascii_digits, parse_signed_minus, parse_signed_plain}
use mir.Syntax.{w128}
use Rattle.cells.specs.Cell.{Cell}
use Rattle.cells.specs.Typed.{is_numeral, typed_number}
use Rattle.query.specs.Literal.{is_of_64_bits, where_of_64_bits, number_in}

own : IsNumeralModel (λ ds. all_ascii_digits ds ≡ true) (digits_value 10)
own = numerals_by_value (λ ds. all_ascii_digits ds ≡ true) tells_all_ascii_digits

-- what the code makes of what `parse` read
abbrev pub literal_read : {E : Type 0} → Result ℤ E → Option Cell
literal_read (Ok z) = where_of_64_bits z
literal_read (Err e) = None

-- numbers that 128 bits don't hold
far_above : (v : ℕ) → 2 ^ 127 ≤ v → is_of_64_bits (pos v) ≡ false
far_above v h = and_right (int_le (neg_ℤ (pos (2 ^ 63))) (pos v)) (int_lt (pos v) (pos (2 ^ 64))) (le-ltb v (2 ^ 64) (omega (arith, h)))

far_below : (v : ℕ) → 2 ^ 127 < v → is_of_64_bits (neg_ℤ (pos v)) ≡ false
far_below zero h = absurd (omega (arith, h))
far_below (suc n) h = and_left (int_le (neg_ℤ (pos (2 ^ 63))) (neg_ℤ (pos (suc n)))) (int_lt (neg_ℤ (pos (suc n))) (pos (2 ^ 64))) (lt-leb n (2 ^ 63 - 1) (omega (arith, h)))

numeral : (ds : List ℕ) → all_ascii_digits ds ≡ true → 0 < length ds → is_numeral ds ≡ true
numeral ds digits long = and_from _ _ (not_from_false _ (ne_eqb (length ds) 0 (λ e. absurd (omega (arith, e, long))))) digits

numeral_parts : (ds : List ℕ) → is_numeral ds ≡ true → (all_ascii_digits ds ≡ true) × (0 < length ds)
numeral_parts ds h =
    let both = and_parts (not (length ds == 0)) (all_ascii_digits ds) h in
    let long : length ds ≢ 0 = eqb-false (length ds) 0 (not-true _ both.0) in
    (both.1, omega (arith, long))

-- of digits after a sign, seen by f
where_numeral : (f : ℕ → ℤ) (ds : List ℕ) → option_and_then where_of_64_bits (option_map f (typed_number ds)) ≡ (if is_numeral ds then where_of_64_bits (f (digits_value 10 ds)) else None)
where_numeral f ds = by (is_numeral ds)
  where
    by : (b : Bool) → option_and_then where_of_64_bits (option_map f (if b then Some (digits_value 10 ds) else None)) ≡ (if b then where_of_64_bits (f (digits_value 10 ds)) else None)
    by true = refl
    by false = refl

none_where : (b : Bool) (n : ℤ) → (b ≡ true → is_of_64_bits n ≡ false) → (if b then where_of_64_bits n else None) ≡ None
none_where true n h = rw (h refl) refl
none_where false n h = refl

some_where : (b : Bool) (n z : ℤ) → b ≡ true → n ≡ z → (if b then where_of_64_bits n else None) ≡ where_of_64_bits z
some_where b n z h e = rw (h, e) refl

minus : {E : Type 0} (ds : List ℕ) (r : Result ℤ E) → OkIff r ((all_ascii_digits ds ≡ true) × (0 < length ds) × (digits_value 10 ds ≤ 2 ^ 127)) (neg_ℤ (pos (digits_value 10 ds)))
    → (if is_numeral ds then where_of_64_bits (neg_ℤ (pos (digits_value 10 ds))) else None) ≡ literal_read r
minus ds (Ok z) k = some_where (is_numeral ds) (neg_ℤ (pos (digits_value 10 ds))) z (numeral ds k.0.0 k.0.1) (sym k.1)
minus ds (Err e) k = none_where (is_numeral ds) (neg_ℤ (pos (digits_value 10 ds))) (λ h. let parts = numeral_parts ds h in elim (cases_lt (2 ^ 127) (digits_value 10 ds)) [ inl far ↦ far_below _ far | inr near ↦ absurd (k (parts.0, parts.1, near)) ])

plain : {E : Type 0} (ds : List ℕ) (r : Result ℤ E) → OkIff r ((all_ascii_digits ds ≡ true) × (0 < length ds) × (digits_value 10 ds < 2 ^ 127)) (pos (digits_value 10 ds))
    → (if is_numeral ds then where_of_64_bits (pos (digits_value 10 ds)) else None) ≡ literal_read r
plain ds (Ok z) k = some_where (is_numeral ds) (pos (digits_value 10 ds)) z (numeral ds k.0.0 k.0.1) (sym k.1)
plain ds (Err e) k = none_where (is_numeral ds) (pos (digits_value 10 ds)) (λ h. let parts = numeral_parts ds h in elim (cases_lt (digits_value 10 ds) (2 ^ 127)) [ inl near ↦ absurd (k (parts.0, parts.1, near)) | inr far ↦ far_above _ far ])

first_of : {E : Type 0} (t : List ℕ) (r : Result ℤ E) → ParsesSigned w128 10 t r → get_or t 0 0 ≢ 43 → (b : Bool) → (get_or t 0 0 == 45) ≡ b
    → option_and_then where_of_64_bits (if b then option_map (λ n. neg_ℤ (pos n)) (typed_number (drop 1 t)) else option_map pos (typed_number t)) ≡ literal_read r
first_of t r h other true e = where_numeral (λ n. neg_ℤ (pos n)) (drop 1 t) ∙ minus (drop 1 t) r (parse_signed_minus own w128 t r h (eqb-true (get_or t 0 0) 45 e))
first_of t r h other false e = where_numeral pos t ∙ plain t r (parse_signed_plain own w128 t r h other (eqb-false (get_or t 0 0) 45 e))

pub number_read : {E : Type 0} (t : List ℕ) (r : Result ℤ E) → ParsesSigned w128 10 t r → get_or t 0 0 ≢ 43 → number_in t ≡ literal_read r
unfolding number_in
number_read t r h other = first_of t r h other (get_or t 0 0 == 45) refl
