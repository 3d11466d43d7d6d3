-- Bits that are repeated, as a number.
use Rattle.std.specs.Prelude.{replicate}
use Rattle.std.specs.Simd.Lanes.{mask_l}
use Rattle.std.proofs.Common.{◌≡◌, ℕ, zero, suc, ◌+◌, ◌-◌, ◌*◌, ◌^◌, ◌%◌, ◌<◌, ◌≤◌, Bool, true, false, cond, List, ◌∷◌, ◌++◌, length, refl, ap, sym, ◌∙◌, arith, mul-le-mul_right}
use Rattle.std.proofs.Math.Nat.{pow-suc}
use Rattle.std.proofs.Math.Pow.{pow_mono}
use Rattle.std.proofs.lemmas.List.FromFn.{length-map-range_with_len}
use Rattle.std.proofs.lemmas.Simd.{mask_l-lt}
use Rattle.bitmap.specs.Bits.{bit}
use Rattle.array_build.proofs.RunFixedItems.{repeated_length}
use Rattle.dictionary_codes.specs.Masks.{mask_bits}
use Rattle.array_build.specs.inner.Masked.{repeated}

-- a power of two that a number of 64 bits holds
pub power : (n : ℕ) → n < 64 → 1 * 2 ^ n % 2 ^ 64 ≡ 2 ^ n
power n few = omega (arith, pow_mono {i = n} {j = 63} (omega (arith, few)))

pub all_unset : (n : ℕ) → mask_l (replicate n false) ≡ 0
all_unset zero = refl
all_unset (suc n) = omega (arith, all_unset n)

pub all_set : (n : ℕ) → mask_l (replicate n true) + 1 ≡ 2 ^ n
all_set zero = refl
all_set (suc n) = omega (arith, all_set n, pow-suc 2 n)

grown : (b y p a : ℕ) → b + 2 * (y * p + a) ≡ y * (p * 2) + (b + 2 * a)
grown b y p a = grind arith

-- some more, below the others
behind : (n : ℕ) (b : Bool) (ys : List Bool) → mask_l (replicate n b ++ ys) ≡ mask_l ys * 2 ^ n + mask_l (replicate n b)
behind zero b ys = omega arith
behind (suc n) b ys = rw (behind n b ys, pow-suc 2 n) (grown (cond b 1 0) (mask_l ys) (2 ^ n) (mask_l (replicate n b)))

-- the bits from one on
from_here : (mask : List ℕ) (i to : ℕ) → 0 < i → i ≤ to → bit mask (i - 1) ∷ mask_bits mask i (to - i) ≡ mask_bits mask (i - 1) (to - (i - 1))
from_here mask i to some le =
    let next : i ≡ i - 1 + 1 = omega (arith, some) in
    let more : suc (to - i) ≡ to - (i - 1) = omega (arith, some, le) in
    ap (λ (k : ℕ). bit mask (i - 1) ∷ mask_bits mask k (to - i)) next ∙ ap (λ (n : ℕ). mask_bits mask (i - 1) n) more

module _ (mask : List ℕ) (size from to : ℕ) (i : ℕ) (some : 0 < i) (low : from < i) (high : i ≤ to) (room : (to - from) * size ≤ 64) where
  abbrev old : ℕ
  old = mask_l (repeated size (mask_bits mask i (to - i)))

  abbrev own : ℕ
  own = mask_l (replicate size (bit mask (i - 1)))

  pub one_more : old * 2 ^ size + own ≡ mask_l (repeated size (mask_bits mask (i - 1) (to - (i - 1))))
  one_more = sym (behind size (bit mask (i - 1)) (repeated size (mask_bits mask i (to - i)))) ∙ ap (λ (bits : List Bool). mask_l (repeated size bits)) (from_here mask i to some high)

  pub fits : old * 2 ^ size + own < 2 ^ 64
  fits =
      let bits : List Bool = mask_bits mask (i - 1) (to - (i - 1)) in
      let size_is : length (repeated size bits) ≡ (to - (i - 1)) * size =
      repeated_length size bits ∙ ap (λ (n : ℕ). n * size) (length-map-range_with_len (bit mask) (i - 1) (to - (i - 1))) in
      let fewer : (to - (i - 1)) * size ≤ (to - from) * size = mul-le-mul_right size (omega (arith, low)) in
      let few : length (repeated size bits) ≤ 64 = omega (arith, size_is, fewer, room) in
      omega (arith, one_more, mask_l-lt (repeated size bits), pow_mono {i = length (repeated size bits)} {j = 64} few)
