-- The first bit of a bitmap that is not set, found in a number.
use Rattle.std.specs.Prelude.{◌==◌}
use Rattle.std.specs.Int.{bit_at, bit_not, trailing_zeros}
use Rattle.std.specs.Int.Count.{trailing_of_zero}
use Rattle.std.proofs.Common.{◌≡◌, ℕ, ◌+◌, ◌-◌, ◌^◌, ◌<◌, true, false, List, inl, inr, ap, sym, ◌∙◌, arith, w64}
use Rattle.std.proofs.lemmas.Bool.{cases_lt}
use Rattle.std.proofs.lemmas.Nat.Bits.{bit_at-lt, bit_at-trailing_zeros, bit_at_not}
use Rattle.bitmap.specs.Bits.{bit}

module _ (bits : List ℕ) (from word : ℕ) (fits : word < 2 ^ 64) (same : (j : ℕ) → j < 57 → (bit_at word j == 1) ≡ bit bits (from + j)) where
  abbrev pub unset_word : ℕ
  unset_word = bit_not w64 word

  abbrev set_bits : ℕ
  set_bits = trailing_zeros w64 unset_word

  unset_bit : (j : ℕ) → j < 57 → bit_at unset_word j ≡ 1 - bit_at word j
  unset_bit j lt = bit_at_not w64 word j fits (omega (arith, lt))

  below : unset_word < 2 ^ 64
  below = omega arith

  some : set_bits < 57 → 0 < unset_word
  some few = elim (cases_lt 0 unset_word) [
    | inl lt ↦ lt
    | inr le ↦
        let none : unset_word ≡ 0 = omega (arith, le) in
        let all : set_bits ≡ 64 = ap (trailing_zeros w64) none ∙ trailing_of_zero 64 in
        absurd (omega (arith, few, all))
  ]

  pub set_before : (j : ℕ) → set_bits < 57 → j < set_bits → bit bits (from + j) ≡ true
  set_before j few lt =
      let unset : 1 - bit_at word j ≡ 0 = sym (unset_bit j (omega (arith, lt, few))) ∙ (bit_at-trailing_zeros w64 unset_word (some few) below).2 j lt in
      let one : bit_at word j ≡ 1 = omega (arith, unset, bit_at-lt word j) in
      sym (same j (omega (arith, lt, few))) ∙ ap (λ (n : ℕ). n == 1) one

  pub unset_after : set_bits < 57 → bit bits (from + set_bits) ≡ false
  unset_after few =
      let unset : 1 - bit_at word set_bits ≡ 1 = sym (unset_bit set_bits few) ∙ (bit_at-trailing_zeros w64 unset_word (some few) below).1 in
      let none : bit_at word set_bits ≡ 0 = omega (arith, unset) in
      sym (same set_bits few) ∙ ap (λ (n : ℕ). n == 1) none
