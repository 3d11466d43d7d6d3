-- Integers as numbers of a fixed width, and back.
use Rattle.std.specs.Prelude.{negsuc, pos, ℤ, ◌-ℤ◌, ◌≤ℤ◌, ◌<ℤ◌, neg_ℤ, int_le, int_lt, ◌&&◌, if◌then◌else◌}
use Rattle.std.proofs.Common.{◌≡◌, ℕ, zero, suc, ◌+◌, ◌-◌, ◌*◌, ◌/◌, ◌^◌, ◌<◌, ◌≤◌, Bool, true, false, refl, arith}
use Rattle.std.proofs.lemmas.Bool.{le-ltb, lt-ltb, and_parts}
use Rattle.std.proofs.lemmas.Int.{ints}
use Rattle.std.proofs.lemmas.Bool.Decides.{nat_tests}
use Rattle.std.proofs.Math.Nat.{pow-suc}
use Rattle.facts.specs.laws.Numbers.{powers}
use Rattle.arrow_schema.specs.Column.{is_bit_width}
use Rattle.cells.specs.Fit.{in_range}
use Rattle.cells.specs.Integers.{integer_of, number_of}

double : (k : ℕ) → 1 ≤ k → 2 ^ k ≡ 2 * 2 ^ (k - 1)
double zero one = absurd (omega arith)
double (suc k) one = let less : suc k - 1 ≡ k = omega arith in rw less (omega (arith, pow-suc 2 k))

signed_again : (w : ℕ) (z : ℤ) → 1 ≤ w → neg_ℤ (pos (2 ^ (8 * w - 1))) ≤ℤ z → z <ℤ pos (2 ^ (8 * w - 1)) → integer_of w true (number_of w z) ≡ z
signed_again w (pos n) one low high =
    let small : n < 2 ^ (8 * w - 1) = omega (arith, ints) in
    rw (lt-ltb n (2 ^ (8 * w - 1)) small) refl
signed_again w (negsuc n) one low high =
    let doubled : 2 ^ (8 * w) ≡ 2 * 2 ^ (8 * w - 1) = double (8 * w) (omega arith) in
    let small : n < 2 ^ (8 * w - 1) = omega (arith, ints) in
    let large : 2 ^ (8 * w - 1) ≤ 2 ^ (8 * w) - (n + 1) = omega arith in
    let left : pos (2 ^ (8 * w) - (n + 1)) -ℤ pos (2 ^ (8 * w)) ≡ negsuc n = omega (arith, ints) in
    rw (le-ltb (2 ^ (8 * w) - (n + 1)) (2 ^ (8 * w - 1)) large) left

unsigned_parts : (k : ℕ) (z : ℤ) → (int_le (pos 0) z && int_lt z (pos k)) ≡ true → (pos 0 ≤ℤ z) × (z <ℤ pos k)
unsigned_parts k z h =
    let p = and_parts (int_le (pos 0) z) (int_lt z (pos k)) h in
    let low = p.0 in
    let high = p.1 in
    (grind (arith, ints), grind (arith, ints))

signed_parts : (k : ℕ) (z : ℤ) → (int_le (neg_ℤ (pos k)) z && int_lt z (pos k)) ≡ true → (neg_ℤ (pos k) ≤ℤ z) × (z <ℤ pos k)
signed_parts k z h =
    let p = and_parts (int_le (neg_ℤ (pos k)) z) (int_lt z (pos k)) h in
    let low = p.0 in
    let high = p.1 in
    (grind (arith, ints), grind (arith, ints))

-- an integer in range becomes a number below 2 ^ (8 * w)
pub number_small : (w : ℕ) (signed : Bool) (z : ℤ) → 1 ≤ w → in_range (8 * w) signed z ≡ true → number_of w z < 2 ^ (8 * w)
number_small w false (pos n) one h = let p = unsigned_parts (2 ^ (8 * w)) (pos n) h in omega (arith, ints, p.1)
number_small w false (negsuc n) one h = let p = unsigned_parts (2 ^ (8 * w)) (negsuc n) h in absurd (omega (arith, ints, p.0))
number_small w true (pos n) one h =
    let p = signed_parts (2 ^ (8 * w - 1)) (pos n) h in
    omega (arith, ints, p.1, double (8 * w) (omega arith))
number_small w true (negsuc n) one h =
    let p = signed_parts (2 ^ (8 * w - 1)) (negsuc n) h in
    let two = double (8 * w) (omega arith) in
    omega (arith, ints, p.0, p.1, two)

pub number_fits : (w : ℕ) (signed : Bool) (z : ℤ) → 1 ≤ w → in_range (8 * w) signed z ≡ true → number_of w z < 256 ^ w
number_fits w signed z one h = rw (← powers w) (number_small w signed z one h)

pub number_back : (w : ℕ) (signed : Bool) (z : ℤ) → 1 ≤ w → in_range (8 * w) signed z ≡ true → integer_of w signed (number_of w z) ≡ z
number_back w false (pos n) one h = refl
number_back w false (negsuc n) one h = let p = unsigned_parts (2 ^ (8 * w)) (negsuc n) h in absurd (omega (arith, ints, p.0))
number_back w true z one h = let p = signed_parts (2 ^ (8 * w - 1)) z h in signed_again w z one p.0 p.1

pub width_cases : (bits : ℕ) → is_bit_width bits ≡ true → (8 * (bits / 8) ≡ bits) × (1 ≤ bits / 8) × (bits / 8 ≤ 8)
width_cases bits w = grind (arith, nat_tests)

-- a number below the index type's count of entries reads as itself, signed or unsigned
pub index_fits : (w : ℕ) (signed : Bool) (k n : ℕ) → k < n → n ≤ (if signed then 2 ^ (8 * w - 1) else 2 ^ (8 * w)) → 1 ≤ w → (k < 256 ^ w) × (integer_of w signed k ≡ pos k)
index_fits w false k n below most one = (rw (← powers w) (let lt : k < 2 ^ (8 * w) = omega arith in lt), refl)
index_fits w true k n below most one =
    let two = double (8 * w) (omega arith) in
    let small : k < 2 ^ (8 * w - 1) = omega arith in
    (rw (← powers w) (let lt : k < 2 ^ (8 * w) = omega (arith, small, two) in lt), rw (lt-ltb k (2 ^ (8 * w - 1)) small) refl)
