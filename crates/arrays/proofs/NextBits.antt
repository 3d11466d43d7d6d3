-- Bits that are set in two numbers, and the runs of those that are set.
use Rattle.std.specs.Prelude.{◌==◌, ◌&&◌, min, max}
use Rattle.std.specs.Int.{bit_at, trailing_zeros}
use Rattle.std.specs.Int.Bits.{bit_and, bit_or}
use Rattle.std.proofs.Common.{◌≡◌, ℕ, zero, suc, ◌+◌, ◌-◌, ◌*◌, ◌/◌, ◌%◌, ◌^◌, ◌<◌, ◌≤◌, inl, inr, refl, ap, ap₂, sym, ◌∙◌, arith, w64}
use Rattle.std.proofs.Math.Pow.{pow_mono}
use Rattle.std.proofs.lemmas.Bool.{cases_lt}
use Rattle.std.proofs.lemmas.Nat.{and_le_l, mod_below, or_lt, pow_pos, shr_split}
use Rattle.std.proofs.lemmas.Nat.Bits.{bit_at-lt, bit_at-suc, bit_at-trailing_zeros, bit_at-zero, bit_at_above, bit_at_and, bit_at_cat_high, bit_at_cat_low, bit_at_lowest, bit_at_ones, bit_at_or, same_from_bits_below}

-- a power of two that a number of 64 bits holds
pub power : (n : ℕ) → n ≤ 56 → 1 * 2 ^ n % 2 ^ 64 ≡ 2 ^ n
power n few = omega (arith, pow_mono {i = n} {j = 56} few)

both_set : (a b : ℕ) → a < 2 → b < 2 → (min a b == 1) ≡ ((a == 1) && (b == 1))
both_set zero zero la lb = refl
both_set zero (suc zero) la lb = refl
both_set (suc zero) zero la lb = refl
both_set (suc zero) (suc zero) la lb = refl
both_set (suc (suc a)) b la lb = absurd (omega (arith, la))
both_set a (suc (suc b)) la lb = absurd (omega (arith, lb))

-- of the lowest bits those that are set in both
pub joined_bit : (a b count j : ℕ) → j < count → (bit_at (bit_and a b % 2 ^ count) j == 1) ≡ ((bit_at a j == 1) && (bit_at b j == 1))
joined_bit a b count j lt =
    let all : ℕ = bit_and a b in
    let low : bit_at (all % 2 ^ count) j ≡ bit_at all j = sym (bit_at_cat_low (all / 2 ^ count) count (all % 2 ^ count) j lt) ∙ ap (λ (x : ℕ). bit_at x j) (shr_split all count) in
    ap (λ (x : ℕ). x == 1) (low ∙ bit_at_and a b j) ∙ both_set (bit_at a j) (bit_at b j) (bit_at-lt a j) (bit_at-lt b j)

-- what is set stands below where the bits of a number end
pub ends_below : (bits count at set : ℕ) → bits < 2 ^ count → 0 < set → ((j : ℕ) → j < set → bit_at bits (at + j) ≡ 1) → at + set ≤ count
ends_below bits count at set small some all = elim (cases_lt count (at + set)) [
  | inl past ↦
      let none : bit_at bits (at + (set - 1)) ≡ 0 = bit_at_above bits count (at + (set - 1)) small (omega (arith, past, some)) in
      let one : bit_at bits (at + (set - 1)) ≡ 1 = all (set - 1) (omega (arith, some)) in
      absurd (omega (arith, none, one))
  | inr le ↦ le
]

-- ---- one less than a number

low_none : (m v : ℕ) → ((i : ℕ) → i < v → bit_at m i ≡ 0) → m % 2 ^ v ≡ 0
low_none m v none =
    same_from_bits_below v (m % 2 ^ v) 0 (mod_below m (2 ^ v) (pow_pos v)) (pow_pos v) (λ i lt.
    sym (bit_at_cat_low (m / 2 ^ v) v (m % 2 ^ v) i lt) ∙ ap (λ (x : ℕ). bit_at x i) (shr_split m v) ∙ none i lt ∙ sym (bit_at-zero i))

-- before an odd number
before_odd : (q k : ℕ) → suc q % 2 ≡ 1 → 0 < k → bit_at q k ≡ bit_at (suc q) k
before_odd q zero odd some = absurd (omega (arith, some))
before_odd q (suc k) odd some =
    let half : q / 2 ≡ suc q / 2 = omega (arith, odd) in
    bit_at-suc q k ∙ ap (λ (x : ℕ). bit_at x k) half ∙ sym (bit_at-suc (suc q) k)

-- the lowest bit that is set has a place: those below it are set, it is not, and the others are the same
module _ (m place : ℕ) (one : bit_at m place ≡ 1) (none : (i : ℕ) → i < place → bit_at m i ≡ 0) where
  abbrev high : ℕ
  high = m / 2 ^ place - 1

  top : m / 2 ^ place ≡ suc high
  top = omega (arith, one)

  odd : suc high % 2 ≡ 1
  odd = ap (λ (x : ℕ). x % 2) (sym top) ∙ one

  whole : m ≡ suc high * 2 ^ place + 0
  whole = sym (shr_split m place) ∙ ap (λ (x : ℕ). m / 2 ^ place * 2 ^ place + x) (low_none m place none) ∙ ap (λ (x : ℕ). x * 2 ^ place + 0) top

  less : m - 1 ≡ high * 2 ^ place + (2 ^ place - 1)
  less =
      let size : suc high * 2 ^ place ≡ 2 ^ place + high * 2 ^ place = omega arith in
      omega (arith, whole, size, pow_pos place)

  pub below_set : (j : ℕ) → j < place → bit_at (m - 1) j ≡ 1
  below_set j lt = ap (λ (x : ℕ). bit_at x j) less ∙ bit_at_cat_low high place (2 ^ place - 1) j lt ∙ bit_at_ones place j lt

  above : (j : ℕ) → place ≤ j → bit_at (m - 1) j ≡ bit_at high (j - place)
  above j le = ap (λ (x : ℕ). bit_at x j) less ∙ bit_at_cat_high high place (2 ^ place - 1) j (omega (arith, pow_pos place)) le

  pub place_unset : bit_at (m - 1) place ≡ 0
  place_unset =
      let here : place - place ≡ 0 = omega arith in
      let even : high % 2 ≡ 0 = omega (arith, odd) in
      above place (omega arith) ∙ ap (bit_at high) here ∙ bit_at_lowest high ∙ even

  pub above_same : (j : ℕ) → place < j → bit_at (m - 1) j ≡ bit_at m j
  above_same j lt =
      above j (omega (arith, lt)) ∙ before_odd high (j - place) odd (omega (arith, lt))
      ∙ sym (ap (λ (x : ℕ). bit_at x j) whole ∙ bit_at_cat_high (suc high) place 0 j (pow_pos place) (omega (arith, lt)))

-- ---- the first run of set bits of a number that is not 0

max_self : (b : ℕ) → b < 2 → max b b ≡ b
max_self zero lt = refl
max_self (suc zero) lt = refl
max_self (suc (suc b)) lt = absurd (omega (arith, lt))

min_self : (b : ℕ) → b < 2 → min b b ≡ b
min_self zero lt = refl
min_self (suc zero) lt = refl
min_self (suc (suc b)) lt = absurd (omega (arith, lt))

min_none : (b : ℕ) → b < 2 → min b 0 ≡ 0
min_none zero lt = refl
min_none (suc zero) lt = refl
min_none (suc (suc b)) lt = absurd (omega (arith, lt))

module _ (bits : ℕ) (some : 0 < bits) (few : bits < 2 ^ 56) where
  abbrev filled : ℕ
  filled = bit_or bits (bits - 1)

  abbrev begin : ℕ
  begin = trailing_zeros w64 bits

  abbrev end : ℕ
  end = trailing_zeros w64 (filled + 1)

  pub filled_few : filled < 2 ^ 56
  filled_few = or_lt 56 bits (bits - 1) few (omega (arith, few))

  pub first : (begin < 64) × (bit_at bits begin ≡ 1) × ((i : ℕ) → i < begin → bit_at bits i ≡ 0)
  first = bit_at-trailing_zeros w64 bits some (omega (arith, few))

  last : (end < 64) × (bit_at (filled + 1) end ≡ 1) × ((i : ℕ) → i < end → bit_at (filled + 1) i ≡ 0)
  last = bit_at-trailing_zeros w64 (filled + 1) (omega arith) (omega (arith, filled_few))

  back : filled + 1 - 1 ≡ filled
  back = omega arith

  -- what is filled, by the end of the run
  filled_set : (j : ℕ) → j < end → bit_at filled j ≡ 1
  filled_set j lt = ap (λ (x : ℕ). bit_at x j) (sym back) ∙ below_set (filled + 1) end last.1 last.2 j lt

  filled_end : bit_at filled end ≡ 0
  filled_end = ap (λ (x : ℕ). bit_at x end) (sym back) ∙ place_unset (filled + 1) end last.1 last.2

  filled_above : (j : ℕ) → end < j → bit_at filled j ≡ bit_at (filled + 1) j
  filled_above j lt = ap (λ (x : ℕ). bit_at x j) (sym back) ∙ above_same (filled + 1) end last.1 last.2 j lt

  -- and by its begin
  low : (j : ℕ) → j < begin → bit_at filled j ≡ 1
  low j lt = bit_at_or bits (bits - 1) j ∙ ap₂ max (first.2 j lt) (below_set bits begin first.1 first.2 j lt)

  at_begin : bit_at filled begin ≡ 1
  at_begin = bit_at_or bits (bits - 1) begin ∙ ap₂ max first.1 (place_unset bits begin first.1 first.2)

  later : (j : ℕ) → begin < j → bit_at filled j ≡ bit_at bits j
  later j lt = bit_at_or bits (bits - 1) j ∙ ap (λ (x : ℕ). max (bit_at bits j) x) (above_same bits begin first.1 first.2 j lt) ∙ max_self (bit_at bits j) (bit_at-lt bits j)

  pub some_set : begin < end
  some_set = elim (cases_lt begin end) [
    | inl lt ↦ lt
    | inr le ↦
        elim (cases_lt end begin) [
          | inl before ↦ absurd (omega (arith, filled_end, low end before))
          | inr past ↦
              let same : end ≡ begin = omega (arith, le, past) in
              absurd (omega (arith, filled_end, ap (bit_at filled) same ∙ at_begin))
        ]
  ]

  pub run_set : (j : ℕ) → begin ≤ j → j < end → bit_at bits j ≡ 1
  run_set j low_place lt = elim (cases_lt begin j) [
    | inl more ↦ sym (later j more) ∙ filled_set j lt
    | inr le ↦
        let same : j ≡ begin = omega (arith, le, low_place) in
        ap (bit_at bits) same ∙ first.1
  ]

  pub rest_before : (j : ℕ) → j < end → bit_at (bit_and bits (filled + 1)) j ≡ 0
  rest_before j lt = bit_at_and bits (filled + 1) j ∙ ap (λ (x : ℕ). min (bit_at bits j) x) (last.2 j lt) ∙ min_none (bit_at bits j) (bit_at-lt bits j)

  end_unset : bit_at bits end ≡ 0
  end_unset = sym (later end some_set) ∙ filled_end

  pub rest_after : (j : ℕ) → end ≤ j → bit_at (bit_and bits (filled + 1)) j ≡ bit_at bits j
  rest_after j le = elim (cases_lt end j) [
    | inl lt ↦
        let other : bit_at (filled + 1) j ≡ bit_at bits j = sym (filled_above j lt) ∙ later j (omega (arith, lt, some_set)) in
        bit_at_and bits (filled + 1) j ∙ ap (λ (x : ℕ). min (bit_at bits j) x) other ∙ min_self (bit_at bits j) (bit_at-lt bits j)
    | inr past ↦
        let same : j ≡ end = omega (arith, le, past) in
        ap (bit_at (bit_and bits (filled + 1))) same ∙ bit_at_and bits (filled + 1) end ∙ ap₂ min end_unset last.1 ∙ sym (ap (bit_at bits) same ∙ end_unset)
  ]

  pub rest_fewer : bit_and bits (filled + 1) < bits
  rest_fewer = elim (cases_lt (bit_and bits (filled + 1)) bits) [
    | inl lt ↦ lt
    | inr le ↦
        let same : bit_and bits (filled + 1) ≡ bits = omega (arith, le, and_le_l bits (filled + 1)) in
        absurd (omega (arith, rest_before begin some_set, ap (λ (x : ℕ). bit_at x begin) same ∙ first.1))
  ]
