-- An integer that is read from bytes is in the range of its width.
use Rattle.std.specs.Prelude.{pos, ℤ, ◌-ℤ◌, ◌≤ℤ◌, ◌<ℤ◌, neg_ℤ, int_le, int_lt}
use Rattle.std.proofs.Common.{◌≡◌, ℕ, ◌-◌, ◌*◌, ◌/◌, ◌^◌, ◌<◌, Bool, true, false, inl, inr, arith}
use Rattle.std.proofs.lemmas.Bool.{cases_lt, and_from, le-ltb, lt-ltb}
use Rattle.std.proofs.lemmas.Bool.Decides.{nat_tests}
use Rattle.std.proofs.lemmas.Int.{ints}
use Rattle.arrow_schema.specs.Column.{is_bit_width}
use Rattle.cells.specs.Fit.{in_range}
use Rattle.cells.specs.Integers.{integer_of}

within : (low high : ℤ) (z : ℤ) → low ≤ℤ z → z <ℤ high → int_le low z ≡ true
within low high z a b = grind (arith, ints)

below : (z high : ℤ) → z <ℤ high → int_lt z high ≡ true
below z high b = grind (arith, ints)

-- for each width
width_cases : (bits : ℕ) → is_bit_width bits ≡ true → (256 ^ (bits / 8) ≡ 2 ^ bits) × (8 * (bits / 8) ≡ bits) × (2 ^ bits ≡ 2 * 2 ^ (bits - 1))
width_cases bits w = grind (arith, nat_tests)

signed_in : (k : ℕ) (z : ℤ) → neg_ℤ (pos k) ≤ℤ z → z <ℤ pos k → (int_le (neg_ℤ (pos k)) z ≡ true) × (int_lt z (pos k) ≡ true)
signed_in k z a b = (within _ (pos k) z a b, below z (pos k) b)

pub integer_fits : (bits : ℕ) (signed : Bool) (n : ℕ) → is_bit_width bits ≡ true → n < 256 ^ (bits / 8) → in_range bits signed (integer_of (bits / 8) signed n) ≡ true
integer_fits bits false n w h =
    let whole = width_cases bits w in
    let lt : n < 2 ^ bits = rw (← whole.0) h in
    and_from _ _ (within (pos 0) (pos (2 ^ bits)) (pos n) (omega (arith, ints)) (omega (arith, ints))) (below (pos n) (pos (2 ^ bits)) (omega (arith, ints)))
integer_fits bits true n w h =
    let whole = width_cases bits w in
    let lt : n < 2 ^ bits = rw (← whole.0) h in
    let two = whole.2 in
    rw whole.1 (elim (cases_lt n (2 ^ (bits - 1))) [
      | inl low ↦ rw (lt-ltb n (2 ^ (bits - 1)) low)
          (let b = signed_in (2 ^ (bits - 1)) (pos n) (omega (arith, ints)) (omega (arith, ints)) in and_from _ _ b.0 b.1)
      | inr high ↦ rw (le-ltb n (2 ^ (bits - 1)) high)
          (let b = signed_in (2 ^ (bits - 1)) (pos n -ℤ pos (2 ^ bits)) (omega (arith, ints)) (omega (arith, ints)) in and_from _ _ b.0 b.1)
    ])
