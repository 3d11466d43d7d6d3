-- Capped weights.
use Rattle.std.proofs.Common.{◌≡◌, ℕ, zero, suc, ◌*◌, ◌≤◌, refl, arith, inl, inr}
use Rattle.std.proofs.lemmas.Bool.{cases_lt}
use Rattle.std.proofs.Math.Nat.{mul-le-mul_left}
use Rattle.cells.specs.Weight.{capped_weight}

-- a multiple of the cap is at least the cap
one_times : (n : ℕ) → 268435457 ≤ suc n * 268435457
one_times n = omega arith

-- a product is capped alike if its factor is capped first
pub capped_product : (n w : ℕ) → capped_weight (n * capped_weight w) ≡ capped_weight (n * w)
capped_product zero w = omega arith
capped_product (suc n) w =
    elim (cases_lt w 268435457) [
      | inl lt ↦ (let e : capped_weight w ≡ w = omega arith in rw e refl)
      | inr ge ↦ (let e : capped_weight w ≡ 268435457 = omega arith in
          let m : suc n * 268435457 ≤ suc n * w = mul-le-mul_left (suc n) ge in
          rw e (omega (arith, m, one_times n)))
    ]
