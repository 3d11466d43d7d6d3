-- The low bytes of an integer that fits are the number that stands for it.
use Rattle.std.specs.Prelude.{pos, negsuc, ℤ, ◌≤ℤ◌, neg_ℤ, int_le, int_lt, ◌&&◌}
use Rattle.std.specs.Int.{w128, byte_at, bytes_low_first, cast_unsigned, to_le_bytes}
use Rattle.std.proofs.Common.{◌≡◌, ℕ, refl, zero, suc, ◌+◌, ◌-◌, ◌*◌, ◌/◌, ◌%◌, ◌^◌, ◌≤◌, ◌<◌, Bool, true, false, List, [], ◌∷◌, ◌++◌, take, ap, ap₂, sym, ◌∙◌, arith}
use Rattle.std.specs.List.{flat_map}
use Rattle.std.proofs.lemmas.Bool.{and_parts}
use Rattle.std.proofs.lemmas.Int.{ints}
use Rattle.std.proofs.Math.Nat.{add-mul-div_left, add-mul-mod_self_left, mod-add-div, mod-eq_of_lt, one-le-pow, pow-suc, pow-succ'}
use Rattle.std.proofs.lemmas.Nat.{pow-add}
use Rattle.std.proofs.Math.Pow.{not_mod}
use Rattle.facts.specs.laws.Numbers.{powers, byte_at-pow, zero_bytes}
use Rattle.byteorder.specs.Endian.{little_bytes, low_bytes}
use Rattle.arrow_schema.specs.Column.{is_bit_width, integers}
use Rattle.arrow_schema.specs.View.{bits_of}
use Rattle.arrow_schema.specs.declared.types.BitWidth.{BitWidth}
use Rattle.arrow_schema.specs.declared.types.BitWidth.TheVariants.{Eight, Sixteen, ThirtyTwo, SixtyFour}
use Rattle.cells.specs.Cell.{Cell, null, boolean, number, text, bytes, items, parts}
use Rattle.cells.specs.Fit.{in_range, null_or, fits_kind}
use Rattle.cells.specs.Integers.{number_of}
use Rattle.columns.specs.Buildable.{are_nulls_or_fit}
use Rattle.columns.specs.Built.{integer_bytes}
use Rattle.batch_build.specs.inner.Stored.{low_bytes_of}
use Rattle.columns.specs.laws.Integers.{number_back, width_cases, number_small}

halves : (k : ℕ) → 1 ≤ k → 2 ^ (k - 1) ≤ 2 ^ k
halves zero one = absurd (omega arith)
halves (suc k) one = let less : suc k - 1 ≡ k = omega arith in rw less (omega (arith, pow-suc 2 k))

above : (k : ℕ) (z : ℤ) → (int_le (neg_ℤ (pos k)) z && int_lt z (pos k)) ≡ true → neg_ℤ (pos k) ≤ℤ z
above k z h =
    let low = (and_parts (int_le (neg_ℤ (pos k)) z) (int_lt z (pos k)) h).0 in
    grind (arith, ints)

low_number : (w : ℕ) (signed : Bool) (z : ℤ) → 1 ≤ w → w ≤ 16 → in_range (8 * w) signed z ≡ true → low_bytes w128 w z ≡ number_of w z
low_number w signed (pos n) one most h = mod-eq_of_lt (number_small w signed (pos n) one h)
low_number w false (negsuc n) one most h = let e = number_back w false (negsuc n) one h in absurd (omega (arith, ints, e))
low_number w true (negsuc n) one most h =
    let low = above (2 ^ (8 * w - 1)) (negsuc n) h in
    let half = halves (8 * w) (omega arith) in
    let small : n < 2 ^ (8 * w) = omega (arith, ints, low, half) in
    let whole : 128 - 8 * w + 8 * w ≡ 128 = omega arith in
    let left : (2 ^ 128 - 1 - n) % 2 ^ (8 * w) ≡ 2 ^ (8 * w) - 1 - n =
    ap (λ (m : ℕ). (2 ^ m - 1 - n) % 2 ^ (8 * w)) (sym whole) ∙ not_mod {a = n} (128 - 8 * w) (8 * w) small in
    let e1 : 2 ^ 128 - suc n ≡ 2 ^ 128 - 1 - n = omega arith in
    let e2 : 2 ^ (8 * w) - (n + 1) ≡ 2 ^ (8 * w) - 1 - n = omega arith in
    ap (λ (k : ℕ). k % 2 ^ (8 * w)) e1 ∙ left ∙ sym e2

low_is : (bits : ℕ) (signed : Bool) (z : ℤ) → is_bit_width bits ≡ true → in_range bits signed z ≡ true → low_bytes w128 (bits / 8) z ≡ number_of (bits / 8) z
low_is bits signed z is h =
    let w = width_cases bits is in
    low_number (bits / 8) signed z w.1 (omega (arith, w.2)) (rw w.0 h)

-- modulo a number with room for a byte above p, the byte above p stays
byte_above : (x p m : ℕ) → 0 < p → (x % (p * (256 * m))) / p % 256 ≡ x / p % 256
byte_above x p m some =
    let b : ℕ = p * (256 * m) in
    let split : x % b + p * (256 * (m * (x / b))) ≡ x = omega (arith, mod-add-div x b) in
    let above : x / p ≡ (x % b) / p + 256 * (m * (x / b)) = ap (λ (t : ℕ). t / p) (sym split) ∙ add-mul-div_left (x % b) (256 * (m * (x / b))) some in
    sym (ap (λ (t : ℕ). t % 256) above ∙ add-mul-mod_self_left ((x % b) / p) 256 (m * (x / b)))

byte_left : (x i k : ℕ) → byte_at i (x % 256 ^ (i + suc k)) ≡ byte_at i x
byte_left x i k =
    let whole : 256 ^ (i + suc k) ≡ 256 ^ i * (256 * 256 ^ k) = pow-add 256 i (suc k) ∙ ap (λ (t : ℕ). 256 ^ i * t) (pow-succ' 256 k) in
    byte_at-pow i (x % 256 ^ (i + suc k))
    ∙ (ap (λ (b : ℕ). (x % b) / 256 ^ i % 256) whole ∙ (byte_above x (256 ^ i) (256 ^ k) (one-le-pow i 256 (omega arith)) ∙ sym (byte_at-pow i x)))

bytes_left : (x i n k : ℕ) → bytes_low_first i n (x % 256 ^ (i + n + k)) ≡ bytes_low_first i n x
bytes_left x i zero k = refl
bytes_left x i (suc n) k =
    let here : i + suc n + k ≡ i + suc (n + k) = omega arith in
    let there : i + suc n + k ≡ suc i + n + k = omega arith in
    ap₂ (λ (b : ℕ) (bs : List ℕ). b ∷ bs)
    (ap (λ (m : ℕ). byte_at i (x % 256 ^ m)) here ∙ byte_left x i (n + k))
    (ap (λ (m : ℕ). bytes_low_first (suc i) n (x % 256 ^ m)) there ∙ bytes_left x (suc i) n k)

-- the low bytes of a number are those of what is below them
low_left : (x n : ℕ) → little_bytes n (x % 2 ^ (8 * n)) ≡ little_bytes n x
low_left x n =
    let none : n ≡ 0 + n + 0 = omega arith in
    ap (λ (b : ℕ). little_bytes n (x % b)) (powers n ∙ ap (λ (m : ℕ). 256 ^ m) none) ∙ bytes_left x 0 n 0

taken_from : (i k n x : ℕ) → n ≤ k → take n (bytes_low_first i k x) ≡ bytes_low_first i n x
taken_from i k zero x le = refl
taken_from i zero (suc n) x le = absurd (omega arith)
taken_from i (suc k) (suc n) x le = ap (λ (bs : List ℕ). byte_at i x ∷ bs) (taken_from (suc i) k n x (let less : n ≤ k = omega arith in less))

pub low_taken : (n x : ℕ) → n ≤ 16 → take n (to_le_bytes w128 x) ≡ little_bytes n x
low_taken n x le = taken_from 0 16 n x le

-- of an integer that fits its type
low_fits : (width : BitWidth) (signed : Bool) (z : ℤ) → null_or true (fits_kind (integers (bits_of width) signed)) (number z) ≡ true
    → low_bytes w128 (bits_of width / 8) z ≡ number_of (bits_of width / 8) z
unfolding fits_kind
low_fits Eight signed z h = low_is 8 signed z refl h
low_fits Sixteen signed z h = low_is 16 signed z refl h
low_fits ThirtyTwo signed z h = low_is 32 signed z refl h
low_fits SixtyFour signed z h = low_is 64 signed z refl h

-- its low bytes are those of the number that stands for it
stored_fits : (width : BitWidth) (signed : Bool) (z : ℤ) → null_or true (fits_kind (integers (bits_of width) signed)) (number z) ≡ true
    → little_bytes (bits_of width / 8) (cast_unsigned w128 z) ≡ little_bytes (bits_of width / 8) (number_of (bits_of width / 8) z)
stored_fits width signed z h =
    sym (low_left (cast_unsigned w128 z) (bits_of width / 8)) ∙ ap (little_bytes (bits_of width / 8)) (low_fits width signed z h)

-- what is written for a cell is its value
stored_value : (width : BitWidth) (signed : Bool) (c : Cell) → null_or true (fits_kind (integers (bits_of width) signed)) c ≡ true
    → low_bytes_of (bits_of width / 8) c ≡ integer_bytes (bits_of width / 8) c
stored_value width signed (number z) h = stored_fits width signed z h
stored_value width signed null h = zero_bytes 0 (bits_of width / 8)
stored_value width signed (boolean b) h = zero_bytes 0 (bits_of width / 8)
stored_value width signed (text t) h = zero_bytes 0 (bits_of width / 8)
stored_value width signed (bytes t) h = zero_bytes 0 (bits_of width / 8)
stored_value width signed (items cs) h = zero_bytes 0 (bits_of width / 8)
stored_value width signed (parts cs) h = zero_bytes 0 (bits_of width / 8)

pub stored_values : (width : BitWidth) (signed : Bool) (cells : List Cell) → are_nulls_or_fit (integers (bits_of width) signed) cells ≡ true
    → flat_map (low_bytes_of (bits_of width / 8)) cells ≡ flat_map (integer_bytes (bits_of width / 8)) cells
stored_values width signed [] h = refl
stored_values width signed (c ∷ cells) h =
    let both = and_parts (null_or true (fits_kind (integers (bits_of width) signed)) c) (are_nulls_or_fit (integers (bits_of width) signed) cells) h in
    ap₂ (λ (xs ys : List ℕ). xs ++ ys) (stored_value width signed c both.0) (stored_values width signed cells both.1)
