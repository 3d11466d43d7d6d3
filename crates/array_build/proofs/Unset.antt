-- What holds of each slot that is not set, from one such slot to the next.
use Rattle.std.specs.Prelude.{◌||◌, not}
use Rattle.std.proofs.Common.{◌≡◌, ◌≤◌, ◌<◌, ◌+◌, ◌∙◌, ℕ, Bool, true, false, ap, arith, inl, inr, refl, sym}
use Rattle.std.proofs.lemmas.Bool.{cases_lt, or_left, or_right}

pub next_unset : (set test : ℕ → Bool) (from i end : ℕ) → ((k : ℕ) → from ≤ k → k < i → (set k || test k) ≡ true) → test i ≡ true → ((k : ℕ) → i + 1 ≤ k → k < end → set k ≡ true)
    → (k : ℕ) → from ≤ k → k < end → (set k || test k) ≡ true
next_unset set test from i end before here after k low high =
    elim (cases_lt k i) [
      | inl below ↦ before k low below
      | inr above ↦
          elim (cases_lt i k) [
            | inl beyond ↦ or_left (set k) (test k) (after k (omega (arith, beyond)) high)
            | inr same ↦
                let is : k ≡ i = omega (arith, above, same) in
                or_right (set k) (test k) (ap test is ∙ here)
          ]
    ]

pub or_more : (one other test : Bool) → (other || test) ≡ true → ((one || other) || test) ≡ true
or_more true other test h = refl
or_more false other test h = h

-- the first that differs stands later
differs : (b : Bool) → b ≡ not b → ⊥
differs true h = absurd cc
differs false h = absurd cc

pub later : (p : ℕ → Bool) (b : Bool) (from end to : ℕ) → from ≤ end → from < to → p from ≡ b → (end < to → p end ≡ not b) → from < end
later p b from end to low some here longest =
    elim (cases_lt from end) [
      | inl lt ↦ lt
      | inr le ↦
          let same : end ≡ from = omega (arith, le, low) in
          absurd (differs b (sym here ∙ ap p (sym same) ∙ longest (omega (arith, same, some))))
    ]
