-- Bytes of equal bits.
use Rattle.std.specs.Prelude.{◌/◌, ◌%◌, ◌^◌, ◌==◌, min, not, if◌then◌else◌, slice_index}
use Rattle.std.specs.Int.{bit_at, trailing_zeros}
use Rattle.std.specs.Int.Count.{trailing_of_zero}
use Rattle.std.proofs.Common.{inl, inr, ◌⊎◌, ◌≡◌, ℕ, suc, ◌+◌, ◌-◌, ◌*◌, ◌≤◌, ◌<◌, Bool, true, false, List, arith, refl, ap, sym, ◌∙◌, w8}
use Rattle.std.proofs.lemmas.Bool.{cases_lt}
use Rattle.std.proofs.lemmas.Bool.Decides.{nat_tests}
use Rattle.std.proofs.lemmas.Nat.{shr-shr, shr_le}
use Rattle.std.proofs.lemmas.Nat.Bits.{bit_at-lt, bit_at-trailing_zeros, bit_at-zero, same_from_bits_below}
use Rattle.bitmap.specs.Bits.{bit}

abbrev pub whole : Bool → ℕ
whole set = if set then 255 else 0

bit_of_whole : (set : Bool) (j : ℕ) → j < 8 → (bit_at (whole set) j == 1) ≡ set
bit_of_whole true (suc (suc (suc (suc (suc (suc (suc (suc j)))))))) lt = absurd (omega arith)
bit_of_whole false (suc (suc (suc (suc (suc (suc (suc (suc j)))))))) lt = absurd (omega arith)
bit_of_whole _ _ lt = refl

whole_small : (set : Bool) → whole set < 256
whole_small true = omega arith
whole_small false = omega arith

-- each bit of bytes that are alike
pub bits_alike : (bytes : List ℕ) (set : Bool) (from to : ℕ) → ((k : ℕ) → from ≤ k → k < to → slice_index bytes k ≡ whole set)
    → (i : ℕ) → 8 * from ≤ i → i < 8 * to → bit bytes i ≡ set
bits_alike bytes set from to alike i above below =
    let byte : slice_index bytes (i / 8) ≡ whole set = alike (i / 8) (omega arith) (omega arith) in
    ap (λ (b : ℕ). bit_at b (i % 8) == 1) byte ∙ bit_of_whole set (i % 8) (omega arith)

-- ---- one byte

-- a number that is zero or one
is_zero : (b : ℕ) → b ≡ 0 → (b == 1) ≡ false
is_zero b h = ap (λ n. n == 1) h

is_one : (b : ℕ) → b ≡ 1 → (b == 1) ≡ true
is_one b h = ap (λ n. n == 1) h

turned_zero : (b : ℕ) → b < 2 → 1 - b ≡ 0 → (b == 1) ≡ true
turned_zero b few h = is_one b (omega (arith, few, h))

turned_one : (b : ℕ) → 1 - b ≡ 1 → (b == 1) ≡ false
turned_one b h = is_zero b (omega (arith, h))

like_this : (set : Bool) (b : ℕ) → b < 2 → (if set then 1 - b else b) ≡ 0 → (b == 1) ≡ set
like_this true b few h = turned_zero b few h
like_this false b few h = is_zero b h

unlike_this : (set : Bool) (b : ℕ) → b < 2 → (if set then 1 - b else b) ≡ 1 → (b == 1) ≡ not set
unlike_this true b few h = turned_one b h
unlike_this false b few h = is_one b h

-- the bits of a byte from one on, where those of another tell which differ
module _ (byte differ : ℕ) (set : Bool) (from count : ℕ) (few : from < 8) (small : differ < 256)
    (tells : (j : ℕ) → j < 8 → bit_at differ j ≡ (if set then 1 - bit_at byte j else bit_at byte j))
    (counted : count ≡ min (trailing_zeros w8 (differ / 2 ^ from)) (8 - from)) where
  rest_bit : (j : ℕ) → bit_at (differ / 2 ^ from) j ≡ bit_at differ (from + j)
  rest_bit j = ap (λ n. n % 2) (shr-shr differ from j)

  below : differ / 2 ^ from < 256
  below = omega (arith, shr_le differ from, small)

  -- no bit is set, or the first that is stands at this place
  lowest : (differ / 2 ^ from ≡ 0) ⊎ (0 < differ / 2 ^ from)
  lowest = elim (cases_lt 0 (differ / 2 ^ from)) [ inl some ↦ inr some | inr none ↦ inl (omega arith) ]

  unset : (j : ℕ) → j < count → bit_at (differ / 2 ^ from) j ≡ 0
  unset j lt = elim lowest [
    | inl none ↦ ap (λ n. bit_at n j) none ∙ bit_at-zero j
    | inr some ↦ (bit_at-trailing_zeros w8 (differ / 2 ^ from) some below).2 j (omega (arith, counted, lt))
  ]

  pub like_from : (j : ℕ) → j < count → (bit_at byte (from + j) == 1) ≡ set
  like_from j lt =
      let here : from + j < 8 = omega (arith, counted, lt) in
      like_this set (bit_at byte (from + j)) (bit_at-lt byte (from + j)) (sym (tells (from + j) here) ∙ sym (rest_bit j) ∙ unset j lt)

  pub unlike_at : from + count < 8 → (bit_at byte (from + count) == 1) ≡ not set
  unlike_at here = elim lowest [
    | inl none ↦
        let all : trailing_zeros w8 (differ / 2 ^ from) ≡ 8 = ap (trailing_zeros w8) none ∙ trailing_of_zero 8 in
        absurd (omega (arith, counted, all, here))
    | inr some ↦
        let at : count ≡ trailing_zeros w8 (differ / 2 ^ from) = omega (arith, counted, here) in
        let one : bit_at (differ / 2 ^ from) count ≡ 1 = ap (λ n. bit_at (differ / 2 ^ from) n) at ∙ (bit_at-trailing_zeros w8 (differ / 2 ^ from) some below).1 in
        unlike_this set (bit_at byte (from + count)) (bit_at-lt byte (from + count)) (sym (tells (from + count) here) ∙ sym (rest_bit count) ∙ one)
  ]

same_bit : (a b : ℕ) → a < 2 → b < 2 → (a == 1) ≡ (b == 1) → a ≡ b
same_bit a b few less same = grind (arith, nat_tests)

-- a byte whose bits are all like this
pub is_whole : (byte : ℕ) (set : Bool) → byte < 256 → ((j : ℕ) → j < 8 → (bit_at byte j == 1) ≡ set) → byte ≡ whole set
is_whole byte set small alike = same_from_bits_below 8 byte (whole set) small (whole_small set)
    (λ j lt. same_bit (bit_at byte j) (bit_at (whole set) j) (bit_at-lt byte j) (bit_at-lt (whole set) j) (alike j lt ∙ sym (bit_of_whole set j lt)))

-- bits of one byte of some bytes
pub in_byte : (bytes : List ℕ) (set : Bool) (k s n : ℕ) → s + n ≤ 8 → ((j : ℕ) → j < n → (bit_at (slice_index bytes k) (s + j) == 1) ≡ set)
    → (i : ℕ) → 8 * k + s ≤ i → i < 8 * k + s + n → bit bytes i ≡ set
in_byte bytes set k s n few alike i low high =
    let byte : i / 8 ≡ k = omega arith in
    let place : i % 8 ≡ s + (i - (8 * k + s)) = omega arith in
    rw (byte, place) (alike (i - (8 * k + s)) (omega arith))

-- a first byte, whole bytes, and those of a last one
pub all_alike : (bytes : List ℕ) (set : Bool) (from next last result : ℕ) → next ≡ 8 * (next / 8)
    → ((i : ℕ) → from ≤ i → i < next → bit bytes i ≡ set) → ((k : ℕ) → next / 8 ≤ k → k < last → slice_index bytes k ≡ whole set)
    → ((i : ℕ) → 8 * last ≤ i → i < result → bit bytes i ≡ set) → (i : ℕ) → from ≤ i → i < result → bit bytes i ≡ set
all_alike bytes set from next last result whole_bytes first in_bytes after i above below =
    elim (cases_lt i next) [
      | inl in_first ↦ first i above in_first
      | inr past ↦ elim (cases_lt i (8 * last)) [
        | inl in_whole ↦ bits_alike bytes set (next / 8) last in_bytes i (omega arith) in_whole
        | inr rest ↦ after i rest below
      ]
    ]
