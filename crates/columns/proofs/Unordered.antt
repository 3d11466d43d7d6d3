-- Offsets that fall, and offsets that do not.
use Rattle.std.specs.Prelude.{◌||◌, ◌==◌, nat_lt, nat_le, ◌^◌, ◌*◌}
use Rattle.std.specs.List.{list_any, range_with_len}
use Rattle.std.proofs.Common.{◌≡◌, ◌≢◌, ℕ, zero, suc, ◌+◌, ◌-◌, ◌≤◌, ◌<◌, Bool, true, false, List, arith, refl, sym, ◌∙◌}
use Rattle.std.proofs.Math.Bool.{or-false, or-true, or_assoc}
use Rattle.std.proofs.lemmas.Bool.{ltb-false, ne_eqb}
use Rattle.std.proofs.lemmas.Bool.Decides.{nat_tests}
use Rattle.columns.specs.Array.{Array, slots_in, offsets_in}
use Rattle.columns.specs.CellAt.{number_at}
use Rattle.columns.specs.Tests.{are_unordered, is_negative}
use Rattle.columns.specs.laws.Offsets.{none, ascend}

some_any : (p : ℕ → Bool) (start n i : ℕ) → i < n → p (start + i) ≡ true → list_any p (range_with_len start n) ≡ true
some_any p start zero i lt h = absurd (omega arith)
some_any p start (suc n) zero lt h = let e : start + 0 ≡ start = omega arith in let here : p start ≡ true = rw e at h in rw here refl
some_any p start (suc n) (suc i) lt h =
    let e : start + suc i ≡ start + 1 + i = omega arith in
    let later : list_any p (range_with_len (start + 1) n) ≡ true = some_any p (start + 1) n i (omega arith) (rw e at h) in
    rw later (or-true (p start))

all_none : (p : ℕ → Bool) (start n : ℕ) → ((i : ℕ) → i < n → p (start + i) ≡ false) → list_any p (range_with_len start n) ≡ false
all_none p start zero h = refl
all_none p start (suc n) h =
    let e : start + 0 ≡ start = omega arith in
    let here : p start ≡ false = rw e at (h 0 (omega arith)) in
    let later : (i : ℕ) → i < n → p (start + 1 + i) ≡ false = λ i lt. let f : start + 1 + i ≡ start + suc i = omega arith in rw f (h (suc i) (omega arith)) in
    rw here (all_none p (start + 1) n later)

any_later : (p : ℕ → Bool) (start n : ℕ) → list_any p (range_with_len start (suc n)) ≡ (list_any p (range_with_len start n) || p (start + n))
any_later p start zero = let e : start + 0 ≡ start = omega arith in rw e (or-false (p start))
any_later p start (suc n) =
    let e : start + suc n ≡ start + 1 + n = omega arith in
    rw (e, any_later p (start + 1) n) (sym (or_assoc (p start) (list_any p (range_with_len (start + 1) n)) (p (start + 1 + n))))

-- one more of a range
pub any_more : (p : ℕ → Bool) (i : ℕ) → list_any p (range_with_len 0 (i + 1)) ≡ (list_any p (range_with_len 0 i) || p i)
any_more p i = let e : i + 1 ≡ suc i = omega arith in let z : 0 + i ≡ i = omega arith in rw e (rw z at (any_later p 0 i))

le_false : (p a b : ℕ) → a ≤ b → nat_le p b ≡ false → nat_le p a ≡ false
le_false p a b le h = grind (arith, nat_tests)

negative_by : (width n : ℕ) (f : ℕ → ℕ) (b : Bool) → ((k : ℕ) → k < n → f k ≤ f (k + 1)) → is_negative width (f n) ≡ b
    → list_any (λ k. is_negative width (f k)) (range_with_len 0 (n + 1)) ≡ b
negative_by width n f true up h = let e : 0 + n ≡ n = omega arith in some_any (λ k. is_negative width (f k)) 0 (n + 1) n (omega arith) (rw e h)
negative_by width n f false up h = all_none (λ k. is_negative width (f k)) 0 (n + 1) (λ k lt.
    let e : 0 + k ≡ k = omega arith in
    let d : k + (n - k) ≡ n = omega arith in
    let below : f k ≤ f n = rw d at (ascend f k (n - k) (λ j less. up j (omega arith))) in
    rw e (le_false (2 ^ (8 * width - 1)) (f k) (f n) below h))

pub none_falls : (width most : ℕ) (a : Array) (os : List ℕ) (slots last : ℕ) → os ≡ offsets_in a → slots ≡ slots_in a → slots ≢ 0 → last ≡ number_at width os slots
    → list_any (λ k. nat_lt (number_at width os (k + 1)) (number_at width os k)) (range_with_len 0 slots) ≡ false
    → are_unordered width most a ≡ (is_negative width last || nat_lt most last)
none_falls width most a os slots last is many some ends ascending =
    let f : ℕ → ℕ = number_at width (offsets_in a) in
    let n : ℕ = slots_in a in
    let filled : (n == 0) ≡ false = ne_eqb n 0 (λ e. some (many ∙ e)) in
    let end : last ≡ f n = rw (is, many) at ends in
    let order : list_any (λ k. nat_lt (f (k + 1)) (f k)) (range_with_len 0 n) ≡ false = rw (is, many) at ascending in
    let up : (k : ℕ) → k < n → f k ≤ f (k + 1) = λ k lt. let z : 0 + k ≡ k = omega arith in ltb-false _ _ (rw z at (none (λ j. nat_lt (f (j + 1)) (f j)) 0 n k order lt)) in
    let negative : list_any (λ k. is_negative width (f k)) (range_with_len 0 (n + 1)) ≡ is_negative width (f n) = negative_by width n f (is_negative width (f n)) up refl in
    rw (filled, order, negative, end) refl

-- the test of the last offset
pub either_true : (r n p u : Bool) → r ≡ n → r ≡ true → u ≡ (n || p) → r ≡ u
either_true r n p u a b c = let t : n ≡ true = sym a ∙ b in b ∙ sym (rw t at c)

pub either_false : (r n p u : Bool) → r ≡ n → r ≡ false → u ≡ (n || p) → p ≡ u
either_false r n p u a b c = let t : n ≡ false = sym a ∙ b in sym (rw t at c)
