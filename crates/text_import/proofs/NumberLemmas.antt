-- Numbers that are capped are refused as those that they stand for.
use Rattle.std.proofs.Common.{◌≡◌, ℕ, ◌+◌, ◌-◌, ◌*◌, ◌≤◌, ◌<◌, ◌^◌, Bool, true, false, List, [], ◌∷◌, length, min, add-one, refl, sym, ap, ◌∙◌, arith, inl, inr}
use Rattle.std.specs.Prelude.{ℤ, pos, neg_ℤ, Option, Some, None, option_map, if◌then◌else◌, ◌==◌, ◌&&◌}
use Rattle.std.specs.Prelude.{int_lt, int_le, get_or, drop}
use Rattle.std.proofs.lemmas.Bool.{cases_lt, false≢true, le-leb, leb-true}
use Rattle.std.proofs.lemmas.Int.{ints}
use Rattle.std.proofs.lemmas.List.{drop_more}
use Rattle.std.proofs.Math.Bool.{and-false}
use Rattle.std.specs.Char.{digit_value, is_ascii_digit}
use Rattle.std.specs.Str.{all_ascii_digits}
use Rattle.std.specs.Str.Parse.{digits_value_after}
use Rattle.std.proofs.Math.Nat.{pow-le-pow_right, pow-suc}
use Rattle.arrow_schema.specs.Column.{Kind, Column, column, integers, dates, timestamps, days, date_milliseconds}
use Rattle.arrow_schema.specs.Parts.{kind_of_column}
use Rattle.cells.specs.Cell.{Cell, null, number}
use Rattle.cells.specs.Nulls.{is_there}
use Rattle.cells.specs.Typed.{typed_number, typed_integer}
use Rattle.cells.specs.Fit.{fits, fits_kind, in_range}
use Rattle.text_import.specs.Flat.{number_cell}
use Rattle.text_import.specs.laws.Digits.{digit_below, digit_is}
use Rattle.text_import.specs.inner.Capped.{number_behind, capped, too_large, capped_integer, holds_numbers}

capped_again : (n : ℕ) → capped n ≡ capped (capped n)
capped_again n = omega arith

capped_step : (n d : ℕ) → capped (n * 10 + d) ≡ capped (capped n * 10 + d)
capped_step n d =
    elim (cases_lt n too_large) [
      | inl lt ↦ (let e : capped n ≡ n = omega arith in rw e refl)
      | inr ge ↦ (let e : capped n ≡ too_large = omega arith in rw e (omega arith))
    ]

-- capping each step caps the whole
capped_number : (n : ℕ) (bs : List ℕ) → option_map capped (number_behind n bs) ≡ option_map capped (number_behind (capped n) bs)
unfolding number_behind
capped_number n [] = ap Some (capped_again n)
capped_number n (b ∷ bs) =
    by (is_ascii_digit b)
    (capped_number (n * 10 + digit_value b) bs
    ∙ ap (λ k. option_map capped (number_behind k bs)) (capped_step n (digit_value b))
    ∙ sym (capped_number (capped n * 10 + digit_value b) bs))
  where
    by : (d : Bool) → option_map capped (number_behind (n * 10 + digit_value b) bs) ≡ option_map capped (number_behind (capped n * 10 + digit_value b) bs)
        → option_map capped (if d && all_ascii_digits bs then Some (digits_value_after 10 (n * 10 + digit_value b) bs) else None)
        ≡ option_map capped (if d && all_ascii_digits bs then Some (digits_value_after 10 (capped n * 10 + digit_value b) bs) else None)
    by false e = refl
    by true e = e

-- the digits from a place on, where a number was kept for those before it
digit_more : (n b : ℕ) (bs : List ℕ) → is_ascii_digit b ≡ true → option_map capped (number_behind n (b ∷ bs)) ≡ option_map capped (number_behind (min (n * 10 + (b - 48)) too_large) bs)
unfolding number_behind
digit_more n b bs is = rw is (ap (λ k. option_map capped (number_behind (n * 10 + k) bs)) (digit_is b is) ∙ capped_number (n * 10 + (b - 48)) bs)

digit_none : (n b : ℕ) (bs : List ℕ) → is_ascii_digit b ≡ false → option_map capped (number_behind n (b ∷ bs)) ≡ None
unfolding number_behind
digit_none n b bs is = rw is refl

pub digits_end : (n : ℕ) → n ≤ too_large → option_map capped (number_behind n []) ≡ Some n
unfolding number_behind
digits_end n le = ap Some (omega arith)

pub digits_of_some : (bs : List ℕ) → (length bs == 0) ≡ false → typed_number bs ≡ number_behind 0 bs
unfolding number_behind
digits_of_some bs e = rw e refl

pub digit_none_at : (t : List ℕ) (n i : ℕ) → i < length t → is_ascii_digit (get_or t i 0) ≡ false → option_map capped (number_behind n (drop i t)) ≡ None
digit_none_at t n i lt is = rw (drop_more t i 0 lt) (digit_none n (get_or t i 0) (drop (i + 1) t) is)

pub digit_more_at : (t : List ℕ) (n i : ℕ) → i < length t → is_ascii_digit (get_or t i 0) ≡ true
    → option_map capped (number_behind n (drop i t)) ≡ option_map capped (number_behind (min (n * 10 + (get_or t i 0 - 48)) too_large) (drop (i + 1) t))
digit_more_at t n i lt is = rw (drop_more t i 0 lt) (digit_more n (get_or t i 0) (drop (i + 1) t) is)

-- a number of few digits has room for one more
pub digit_room : (t : List ℕ) (n i : ℕ) → n < 10 ^ i → i < length t → length t ≤ 19 → n * 10 + 9 < 2 ^ 64
digit_room t n i small lt few =
    let place : i ≤ 18 = omega arith in
    let most : 10 ^ i ≤ 10 ^ 18 = pow-le-pow_right (omega arith) place in
    omega (arith, most, small)

pub digit_small : (t : List ℕ) (n i : ℕ) → n < 10 ^ i → is_ascii_digit (get_or t i 0) ≡ true → n * 10 + (get_or t i 0 - 48) < 10 ^ (i + 1)
digit_small t n i small is =
    let more : 10 ^ (i + 1) ≡ 10 ^ i * 10 = rw add-one (pow-suc 10 i) in
    omega (arith, more, small, digit_below (get_or t i 0) is)

-- a number that is too large is in no range
above : (bits n : ℕ) (signed : Bool) → bits ≤ 64 → too_large ≤ n → in_range bits signed (pos n) ≡ false
above bits n false l h =
    let p : 2 ^ bits ≤ 2 ^ 64 = pow-le-pow_right (omega arith) l in
    let e : int_lt (pos n) (pos (2 ^ bits)) ≡ false = grind (arith, ints) in
    rw e (and-false _)
above bits n true l h =
    let q : bits - 1 ≤ 64 = omega arith in
    let p : 2 ^ (bits - 1) ≤ 2 ^ 64 = pow-le-pow_right (omega arith) q in
    let e : int_lt (pos n) (pos (2 ^ (bits - 1))) ≡ false = grind (arith, ints) in
    rw e (and-false _)

below : (bits n : ℕ) (signed : Bool) → bits ≤ 64 → too_large ≤ n → in_range bits signed (neg_ℤ (pos n)) ≡ false
below bits n false l h =
    let e : int_le (pos 0) (neg_ℤ (pos n)) ≡ false = grind (arith, ints) in
    rw e refl
below bits n true l h =
    let q : bits - 1 ≤ 63 = omega arith in
    let p : 2 ^ (bits - 1) ≤ 2 ^ 63 = pow-le-pow_right (omega arith) q in
    let e : int_le (neg_ℤ (pos (2 ^ (bits - 1)))) (neg_ℤ (pos n)) ≡ false = grind (arith, ints) in
    rw e refl

fits_above : (k : Kind) (n : ℕ) → holds_numbers k ≡ true → too_large ≤ n → fits_kind k (number (pos n)) ≡ false
unfolding fits_kind
fits_above (integers bits signed) n h l = above bits n signed (leb-true bits 64 h) l
fits_above (dates days) n h l = above 32 n true (omega arith) l
fits_above (dates date_milliseconds) n h l = above 64 n true (omega arith) l
fits_above (timestamps unit timezone) n h l = above 64 n true (omega arith) l
fits_above _ n h l = absurd (false≢true h)

fits_below : (k : Kind) (n : ℕ) → holds_numbers k ≡ true → too_large ≤ n → fits_kind k (number (neg_ℤ (pos n))) ≡ false
unfolding fits_kind
fits_below (integers bits signed) n h l = below bits n signed (leb-true bits 64 h) l
fits_below (dates days) n h l = below 32 n true (omega arith) l
fits_below (dates date_milliseconds) n h l = below 64 n true (omega arith) l
fits_below (timestamps unit timezone) n h l = below 64 n true (omega arith) l
fits_below _ n h l = absurd (false≢true h)

capped_pos : (k : Kind) (n : ℕ) → holds_numbers k ≡ true → number_cell k (Some (pos (capped n))) ≡ number_cell k (Some (pos n))
capped_pos k n h =
    elim (cases_lt n too_large) [
      | inl lt ↦ (let e : capped n ≡ n = omega arith in rw e refl)
      | inr ge ↦ (let a = fits_above k n h ge in let b = fits_above k (capped n) h (omega arith) in rw (a, b) refl)
    ]

capped_neg : (k : Kind) (n : ℕ) → holds_numbers k ≡ true → number_cell k (Some (neg_ℤ (pos (capped n)))) ≡ number_cell k (Some (neg_ℤ (pos n)))
capped_neg k n h =
    elim (cases_lt n too_large) [
      | inl lt ↦ (let e : capped n ≡ n = omega arith in rw e refl)
      | inr ge ↦ (let a = fits_below k n h ge in let b = fits_below k (capped n) h (omega arith) in rw (a, b) refl)
    ]

capped_digits_pos : (k : Kind) (o : Option ℕ) → holds_numbers k ≡ true → number_cell k (option_map pos (option_map capped o)) ≡ number_cell k (option_map pos o)
capped_digits_pos k None h = refl
capped_digits_pos k (Some n) h = capped_pos k n h

capped_digits_neg : (k : Kind) (o : Option ℕ) → holds_numbers k ≡ true
    → number_cell k (option_map (λ n. neg_ℤ (pos n)) (option_map capped o)) ≡ number_cell k (option_map (λ n. neg_ℤ (pos n)) o)
capped_digits_neg k None h = refl
capped_digits_neg k (Some n) h = capped_neg k n h

-- an integer that is capped is refused as the one that it stands for, and else is that one
pub number_capped : (k : Kind) (t : List ℕ) → holds_numbers k ≡ true → number_cell k (capped_integer t) ≡ number_cell k (typed_integer t)
number_capped k [] h = refl
number_capped k (b ∷ bs) h = by (b == 45)
  where
    by : (m : Bool)
        → number_cell k (if m then option_map (λ n. neg_ℤ (pos n)) (option_map capped (typed_number bs)) else option_map pos (option_map capped (typed_number (b ∷ bs))))
        ≡ number_cell k (if m then option_map (λ n. neg_ℤ (pos n)) (typed_number bs) else option_map pos (typed_number (b ∷ bs)))
    by true = capped_digits_neg k (typed_number bs) h
    by false = capped_digits_pos k (typed_number (b ∷ bs)) h

-- a value fits a field where it fits the type
pub fits_value : (f : Column) (x : Cell) → is_there x ≡ true → fits f x ≡ fits_kind (kind_of_column f) x
unfolding fits
fits_value (column name nullable kind dictionary pairs) null e = absurd (false≢true e)
fits_value (column name nullable kind dictionary pairs) x e = refl

pub integers_capped : (o : Option ℤ) (t : List ℕ) → o ≡ capped_integer t → (bits : ℕ) (signed : Bool) → bits ≤ 64 → number_cell (integers bits signed) o ≡ number_cell (integers bits signed) (typed_integer t)
integers_capped o t is bits signed small = rw is (number_capped (integers bits signed) t (le-leb bits 64 small))
