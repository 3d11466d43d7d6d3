-- Short integers, where they are in a text.
use mir.Syntax.{w64}
use mir.Val.{SFits, of_z, to_z}
use Rattle.std.specs.Prelude.{ℤ, pos, neg_ℤ, ◌-ℤ◌, not, ◌==◌, get_or, slice_index, Some}
use Rattle.std.specs.Char.{digit_value, is_ascii_digit}
use Rattle.std.specs.List.{list_all}
use Rattle.std.specs.Str.{all_ascii_digits}
use Rattle.std.specs.Str.Parse.{digits_value}
use Rattle.std.proofs.Common.{◌≡◌, ℕ, zero, suc, ◌+◌, ◌-◌, ◌*◌, ◌^◌, ◌≤◌, ◌<◌, true, false, List, [], ◌∷◌, length, take, drop, refl, arith, ap, sym, ◌∙◌, add-one, length-drop}
use Rattle.std.proofs.Math.Nat.{pow-le-pow_right, pow-suc}
use Rattle.std.proofs.lemmas.Bool.{and_from, and_parts, eqb-true, ne_eqb}
use Rattle.std.proofs.lemmas.Int.{ints, to_z-of_z, to_z_pos}
use Rattle.std.proofs.lemmas.Int.Digits.{digits_value_more}
use Rattle.std.proofs.lemmas.List.{drop_more, get_or-drop, length-take-le}
use Rattle.cells.specs.Typed.{typed_integer, typed_number}
use Rattle.text_import.specs.laws.Digits.{digit_bounds, digit_is}
use Rattle.text_columns.specs.inner.Plain.{AreDigits, IsShortInteger, begins_quoted, begins_with, ends_field}
use Rattle.text_columns.proofs.PlainText.{one_between}

-- ---- digits one by one

-- no digit yet
pub no_digits : (text : List ℕ) (from : ℕ) → from ≤ length text → AreDigits text from from 0
no_digits text from le =
    let none : from - from ≡ 0 = omega arith in
    record {
      low = omega arith;
      high = le;
      digits = ap (λ (n : ℕ). list_all is_ascii_digit (take n (drop from text))) none;
      spelled = sym (ap (λ (n : ℕ). digits_value 10 (take n (drop from text))) none);
      small = rw none (omega arith);
    }

pub digit_small : (text : List ℕ) (from i number : ℕ) → AreDigits text from i number → i < from + 18 → number * 10 + 9 < 2 ^ 64
digit_small text from i number h few =
    let place : i - from ≤ 17 = omega arith in
    let most : 10 ^ (i - from) ≤ 10 ^ 17 = pow-le-pow_right (omega arith) place in
    omega (arith, most, h.small)

-- at most 18 of them fit 64 bits with a sign
pub digits_fit : (text : List ℕ) (from end number : ℕ) → AreDigits text from end number → end ≤ from + 18 → number < 2 ^ 63
digits_fit text from end number h few =
    let place : end - from ≤ 18 = omega arith in
    let most : 10 ^ (end - from) ≤ 10 ^ 18 = pow-le-pow_right (omega arith) place in
    omega (arith, most, h.small)

pub one_digit : (text : List ℕ) (from i number b : ℕ) → AreDigits text from i number → i < length text → b ≡ slice_index text i → is_ascii_digit b ≡ true
    → AreDigits text from (i + 1) (number * 10 + (b - 48))
one_digit text from i number b h lt byte is =
    let digit : is_ascii_digit (slice_index text i) ≡ true = ap is_ascii_digit (sym byte) ∙ is in
    let next : i + 1 - from ≡ i - from + 1 = omega (arith, h.low) in
    let room : i - from < length (drop from text) = omega (arith, length-drop from text, h.low) in
    let place : from + (i - from) ≡ i = omega (arith, h.low) in
    let here : get_or (drop from text) (i - from) 0 ≡ b = get_or-drop from text (i - from) 0 ∙ ap (λ (n : ℕ). get_or text n 0) place ∙ sym byte in
    let more = digits_value_more 10 (drop from text) (i - from) room in
    let value : digit_value (get_or (drop from text) (i - from) 0) ≡ b - 48 = ap digit_value here ∙ digit_is b is in
    let power : 10 ^ (i - from + 1) ≡ 10 ^ (i - from) * 10 = rw add-one (pow-suc 10 (i - from)) in
    let bounds = digit_bounds b is in
    record {
      low = omega (arith, h.low);
      high = omega arith;
      digits = one_between is_ascii_digit text from i h.low lt digit h.digits;
      spelled = ap (λ (n : ℕ). n * 10 + (b - 48)) h.spelled
          ∙ sym (ap (λ (n : ℕ). digits_value 10 (take n (drop from text))) next ∙ more ∙ ap (λ (n : ℕ). digits_value 10 (take (i - from) (drop from text)) * 10 + n) value);
      small = rw next (omega (arith, power, h.small, bounds));
    }

-- ---- what they spell

all_digits : (xs : List ℕ) → list_all is_ascii_digit xs ≡ true → all_ascii_digits xs ≡ true
all_digits [] h = refl
all_digits (x ∷ xs) h = let p = and_parts (is_ascii_digit x) (list_all is_ascii_digit xs) h in and_from _ _ p.0 (all_digits xs p.1)

typed_digits : (xs : List ℕ) (number : ℕ) → 0 < length xs → list_all is_ascii_digit xs ≡ true → number ≡ digits_value 10 xs → typed_number xs ≡ Some number
typed_digits xs number some h is =
    let none : length xs ≡ 0 → ⊥ = λ e. omega arith in
    let longer : (length xs == 0) ≡ false = ne_eqb (length xs) 0 none in
    let digits = all_digits xs h in
    rw (longer, digits) (ap Some (sym is))

digit_inside : (b : ℕ) → is_ascii_digit b ≡ true → not (ends_field b) ≡ true
digit_inside b h = let p = digit_bounds b h in grind (arith, p)

digits_inside : (xs : List ℕ) → list_all is_ascii_digit xs ≡ true → list_all (λ b. not (ends_field b)) xs ≡ true
digits_inside [] h = refl
digits_inside (x ∷ xs) h = let p = and_parts (is_ascii_digit x) (list_all is_ascii_digit xs) h in and_from _ _ (digit_inside x p.0) (digits_inside xs p.1)

typed_unsigned : (t : List ℕ) (number : ℕ) → 0 < length t → list_all is_ascii_digit t ≡ true → number ≡ digits_value 10 t → typed_integer t ≡ Some (pos number)
typed_unsigned [] number some h is = absurd (omega arith)
typed_unsigned (x ∷ xs) number some h is =
    let p = and_parts (is_ascii_digit x) (list_all is_ascii_digit xs) h in
    let bounds = digit_bounds x p.0 in
    let minus : (x == 45) ≡ false = grind (arith, bounds) in
    let typed = typed_digits (x ∷ xs) number some h is in
    rw (minus, typed) refl

typed_negative : (t : List ℕ) (number : ℕ) → 0 < length t → list_all is_ascii_digit t ≡ true → number ≡ digits_value 10 t → typed_integer (45 ∷ t) ≡ Some (neg_ℤ (pos number))
typed_negative [] number some h is = absurd (omega arith)
typed_negative (x ∷ xs) number some h is = let typed = typed_digits (x ∷ xs) number some h is in rw typed refl

unquoted_digits : (xs : List ℕ) (k : ℕ) → 0 < k → list_all is_ascii_digit (take k xs) ≡ true → begins_quoted xs ≡ false
unquoted_digits [] k some h = refl
unquoted_digits (x ∷ xs) zero some h = absurd (omega arith)
unquoted_digits (x ∷ xs) (suc k) some h =
    let p = and_parts (is_ascii_digit x) (list_all is_ascii_digit (take k xs)) h in
    let bounds = digit_bounds x p.0 in
    grind (arith, bounds)

-- a field of digits
pub unsigned_field : (text : List ℕ) (from end number : ℕ) → AreDigits text from end number → from < end → (end < length text → ends_field (slice_index text end) ≡ true)
    → (z : ℤ) → z ≡ pos number
    → IsShortInteger text from (record { end = end; number = z })
unsigned_field text from end number h some stops z is =
    let size = length-take-le (end - from) (drop from text) (omega (arith, h.high, length-drop from text)) in
    record {
      field = record { low = h.low; high = h.high; plain = digits_inside (take (end - from) (drop from text)) h.digits; stops = stops };
      unquoted = unquoted_digits (drop from text) (end - from) (omega arith) h.digits;
      spelled = typed_unsigned (take (end - from) (drop from text)) number (omega (arith, size)) h.digits h.spelled ∙ ap Some (sym is);
    }

-- and of a minus and digits
after_minus : (text : List ℕ) (from : ℕ) → begins_with 45 (drop from text) ≡ true → from < length text → drop from text ≡ 45 ∷ drop (from + 1) text
after_minus text from minus lt =
    let byte = drop_more text from 0 lt in
    let is : slice_index text from ≡ 45 = eqb-true _ _ (rw byte at minus) in
    byte ∙ ap (λ (x : ℕ). x ∷ drop (from + 1) text) is

minus_inside : (text : List ℕ) (from : ℕ) → begins_with 45 (drop from text) ≡ true → from < length text
minus_inside [] zero h = absurd cc
minus_inside [] (suc from) h = absurd cc
minus_inside (x ∷ text) zero h = omega arith
minus_inside (x ∷ text) (suc from) h = let less = minus_inside text from h in omega arith

pub negative_field : (text : List ℕ) (from end number : ℕ) → begins_with 45 (drop from text) ≡ true → AreDigits text (from + 1) end number → from + 1 < end
    → (end < length text → ends_field (slice_index text end) ≡ true) → (z : ℤ) → z ≡ neg_ℤ (pos number)
    → IsShortInteger text from (record { end = end; number = z })
negative_field text from end number minus h some stops z is =
    let rest : drop from text ≡ 45 ∷ drop (from + 1) text = after_minus text from minus (minus_inside text from minus) in
    let one : end - from ≡ suc (end - (from + 1)) = omega arith in
    let ds : List ℕ = take (end - (from + 1)) (drop (from + 1) text) in
    let size = length-take-le (end - (from + 1)) (drop (from + 1) text) (omega (arith, h.high, length-drop (from + 1) text)) in
    let whole : take (end - from) (drop from text) ≡ 45 ∷ ds = rw (one, rest) refl in
    record {
      field = record {
        low = omega arith;
        high = h.high;
        plain = ap (list_all (λ b. not (ends_field b))) whole ∙ digits_inside ds h.digits;
        stops = stops;
      };
      unquoted = ap begins_quoted rest;
      spelled = ap typed_integer whole ∙ typed_negative ds number (omega (arith, size)) h.digits h.spelled ∙ ap Some (sym is);
    }

-- a number of 63 bits, and what is below it, as a signed one
pub negated_fits : (n : ℕ) → n < 2 ^ 63 → SFits w64 (pos 0 -ℤ to_z w64 n)
negated_fits n few = let same = to_z_pos w64 n few in rw same (omega (arith, ints))

pub negated : (n : ℕ) → n < 2 ^ 63 → to_z w64 (of_z w64 (pos 0 -ℤ to_z w64 n)) ≡ neg_ℤ (pos n)
negated n few =
    let minus : pos 0 -ℤ pos n ≡ neg_ℤ (pos n) = omega (arith, ints) in
    to_z-of_z w64 (pos 0 -ℤ to_z w64 n) (negated_fits n few) ∙ ap (λ (z : ℤ). pos 0 -ℤ z) (to_z_pos w64 n few) ∙ minus
