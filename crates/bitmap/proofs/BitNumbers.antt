-- The bits of a mask that are read as one number of several bytes.
use Rattle.std.specs.Prelude.{◌==◌, min, slice_index}
use Rattle.std.specs.Int.{bit_at}
use Rattle.std.specs.List.{range_with_len}
use Rattle.std.specs.Simd.Lanes.{mask_l}
use Rattle.std.proofs.Common.{◌≡◌, ℕ, zero, suc, ◌+◌, ◌-◌, ◌*◌, ◌/◌, ◌%◌, ◌^◌, ◌<◌, ◌≤◌, Bool, false, cond, List, drop, length, map, inl, inr, refl, ap, ap₂, sym, ◌∙◌, arith}
use Rattle.std.proofs.Math.Pow.{pow_mono}
use Rattle.std.proofs.lemmas.Bool.{cases_lt}
use Rattle.std.proofs.lemmas.List.{get_or-drop, length-drop}
use Rattle.std.proofs.lemmas.List.FromFn.{get_or-map-range_with_len, length-map-range_with_len}
use Rattle.std.proofs.lemmas.Nat.{div_below, mod_below, pow-add, pow_pos, shr-shr, shr_split}
use Rattle.std.proofs.lemmas.Nat.Bits.{bit_at-lt, bit_at_cat_high, bit_at_cat_low, same_from_bits_below}
use Rattle.std.proofs.lemmas.Simd.{bit_mask_l, mask_l-lt}
use Rattle.byteorder.specs.Endian.{little_from, little_number}
use Rattle.byteorder.specs.Numbers.{little_from-lt}
use Rattle.facts.specs.Bytes.{AreBytes}
use Rattle.facts.specs.laws.Bytes.{drop-bytes}
use Rattle.facts.specs.laws.Numbers.{powers}
use Rattle.bitmap.specs.Bits.{bit}

-- a bit of a number is one of its bytes
bit_of_little : (n i j : ℕ) (xs : List ℕ) → AreBytes xs → j < 8 * n → bit_at (little_from i n xs) j ≡ bit_at (slice_index xs (i + j / 8)) (j % 8)
bit_of_little zero i j xs small lt = absurd (omega (arith, lt))
bit_of_little (suc n) i j xs small lt =
    let own : ℕ = slice_index xs i in
    let others : ℕ = little_from (suc i) n xs in
    let form : own + 256 * others ≡ others * 2 ^ 8 + own = omega arith in
    elim (cases_lt j 8) [
      | inl low ↦
          let byte : i ≡ i + j / 8 = omega (arith, low) in
          let place : j ≡ j % 8 = omega (arith, low) in
          ap (λ (x : ℕ). bit_at x j) form ∙ bit_at_cat_low others 8 own j low ∙ ap₂ (λ (k m : ℕ). bit_at (slice_index xs k) m) byte place
      | inr high ↦
          let byte : suc i + (j - 8) / 8 ≡ i + j / 8 = omega (arith, high) in
          let place : (j - 8) % 8 ≡ j % 8 = omega (arith, high) in
          ap (λ (x : ℕ). bit_at x j) form ∙ bit_at_cat_high others 8 own j (small i) high
          ∙ bit_of_little n (suc i) (j - 8) xs small (omega (arith, lt, high)) ∙ ap₂ (λ (k m : ℕ). bit_at (slice_index xs k) m) byte place
    ]

digit : (x : ℕ) → x < 2 → cond (x == 1) 1 0 ≡ x
digit zero lt = refl
digit (suc zero) lt = refl
digit (suc (suc x)) lt = absurd (omega (arith, lt))

-- a power of two that a number of 64 bits holds
pub power : (n : ℕ) → n ≤ 57 → 1 * 2 ^ n % 2 ^ 64 ≡ 2 ^ n
power n few = omega (arith, pow_mono {i = n} {j = 57} few)

-- numbers with the bits of a mask, from one on, are that part of it
module _ (bits : List ℕ) (from number count : ℕ) (same : (j : ℕ) → j < count → (bit_at number j == 1) ≡ bit bits (from + j)) where
  abbrev set : List Bool
  set = map (bit bits) (range_with_len from count)

  same_bit : (j : ℕ) → j < count → bit_at (mask_l set) j ≡ bit_at number j
  same_bit j lt =
      bit_mask_l set j
      ∙ ap (λ (b : Bool). cond b 1 0) (get_or-map-range_with_len (bit bits) from count j (from + j) false lt refl ∙ sym (same j lt))
      ∙ digit (bit_at number j) (bit_at-lt number j)

  pub number_is : number < 2 ^ count → number ≡ mask_l set
  number_is fits =
      sym (same_from_bits_below count (mask_l set) number (omega (arith, mask_l-lt set, ap (λ (k : ℕ). 2 ^ k) (length-map-range_with_len (bit bits) from count))) fits same_bit)

  low_bit : (j : ℕ) → j < count → bit_at (number % 2 ^ count) j ≡ bit_at number j
  low_bit j lt = sym (bit_at_cat_low (number / 2 ^ count) count (number % 2 ^ count) j lt) ∙ ap (λ (x : ℕ). bit_at x j) (shr_split number count)

-- of the lowest bits of a number
pub low_bits : (bits : List ℕ) (from number count : ℕ) → ((j : ℕ) → j < count → (bit_at number j == 1) ≡ bit bits (from + j)) → number % 2 ^ count ≡ mask_l (map (bit bits) (range_with_len from count))
low_bits bits from number count same =
    number_is bits from (number % 2 ^ count) count (λ j lt. ap (λ (x : ℕ). x == 1) (low_bit bits from number count same j lt) ∙ same j lt) (mod_below number (2 ^ count) (pow_pos count))

-- the bits from one on, in a number of n bytes
module _ (bits : List ℕ) (from n word : ℕ) (small : AreBytes bits) (is : word ≡ little_number n (drop (from / 8) bits)) where
  pub next_bit : (j : ℕ) → from % 8 + j < 8 * n → (bit_at (word / 2 ^ (from % 8)) j == 1) ≡ bit bits (from + j)
  next_bit j lt =
      let at : ℕ = from % 8 + j in
      let byte : from / 8 + (0 + at / 8) ≡ (from + j) / 8 = omega arith in
      let place : at % 8 ≡ (from + j) % 8 = omega arith in
      let one : bit_at (word / 2 ^ (from % 8)) j ≡ bit_at (slice_index bits ((from + j) / 8)) ((from + j) % 8) =
      ap (λ (m : ℕ). m % 2) (shr-shr word (from % 8) j)
      ∙ ap (λ (x : ℕ). bit_at x at) is
      ∙ bit_of_little n 0 at (drop (from / 8) bits) (drop-bytes (from / 8) bits small) lt
      ∙ ap (λ (x : ℕ). bit_at x (at % 8)) (get_or-drop (from / 8) bits (0 + at / 8) 0)
      ∙ ap₂ (λ (k m : ℕ). bit_at (slice_index bits k) m) byte place in
      ap (λ (x : ℕ). x == 1) one

  fits : (count : ℕ) → from % 8 + count ≡ 8 * n → word / 2 ^ (from % 8) < 2 ^ count
  fits count all =
      let bytes : word < 256 ^ n = omega (arith, is, little_from-lt 0 n (drop (from / 8) bits) (drop-bytes (from / 8) bits small)) in
      let both : 2 ^ count * 2 ^ (from % 8) ≡ 2 ^ (8 * n) =
      let turned : count + from % 8 ≡ 8 * n = omega (arith, all) in sym (pow-add 2 count (from % 8)) ∙ ap (λ (k : ℕ). 2 ^ k) turned in
      div_below word (2 ^ (from % 8)) (2 ^ count) (pow_pos (from % 8)) (omega (arith, bytes, both, powers n))

  -- all of them
  pub all_bits : (count : ℕ) → from % 8 + count ≡ 8 * n → word / 2 ^ (from % 8) ≡ mask_l (map (bit bits) (range_with_len from count))
  all_bits count all = number_is bits from (word / 2 ^ (from % 8)) count (λ j lt. next_bit j (omega (arith, lt, all))) (fits count all)

-- the same of all bytes that are left
module _ (bits rest : List ℕ) (from n word : ℕ) (small : AreBytes bits) (is : word ≡ little_number n rest) (same : rest ≡ drop (from / 8) bits) (long : n ≡ length rest) (some : from < 8 * length bits) where
  left : word ≡ little_number n (drop (from / 8) bits)
  left = is ∙ ap (little_number n) same

  count_left : n ≡ length bits - from / 8
  count_left = long ∙ ap length same ∙ length-drop (from / 8) bits

  pub last_bit : (j : ℕ) → from + j < 8 * length bits → (bit_at (word / 2 ^ (from % 8)) j == 1) ≡ bit bits (from + j)
  last_bit j lt = next_bit bits from n word small left j (omega (arith, count_left, lt))

  pub last_bits : n < 8 → word / 2 ^ (from % 8) ≡ mask_l (map (bit bits) (range_with_len from (min (64 - from % 8) (8 * length bits - from))))
  last_bits few =
      let count : min (64 - from % 8) (8 * length bits - from) ≡ 8 * length bits - from = omega (arith, few, count_left, some) in
      rw count (all_bits bits from n word small left (8 * length bits - from) (omega (arith, count_left, some)))

-- the same of eight bytes
pub eight_bytes : (bits : List ℕ) (from word : ℕ) → AreBytes bits → word ≡ little_number 8 (drop (from / 8) bits) → from / 8 + 8 ≤ length bits
    → word / 2 ^ (from % 8) ≡ mask_l (map (bit bits) (range_with_len from (min (64 - from % 8) (8 * length bits - from))))
eight_bytes bits from word small is room =
    let count : min (64 - from % 8) (8 * length bits - from) ≡ 64 - from % 8 = omega (arith, room) in
    rw count (all_bits bits from 8 word small is (64 - from % 8) (omega arith))
