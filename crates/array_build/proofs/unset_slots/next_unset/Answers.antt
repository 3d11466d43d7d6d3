use Rattle.std.proofs.Common.{◌≡◌, ◌+◌, ◌-◌, ◌∙◌, ℕ, ap, arith, sym}
use Rattle.bitmap.specs.Bits.{bit}
use Rattle.array_build.proofs.unset_slots.next_unset.Goals as goal

pub returns-then-set-lt57-clause-alike : goal.returns-then-set-lt57-clause-alike
returns-then-set-lt57-clause-alike c = λ i low high.
    let j : ℕ = i - c.args.from in
    let place : c.args.from + j ≡ i = omega (arith, low) in
    ap (bit c.args.bits.now) (sym place) ∙ c.count_set_in_word-set.ensures.alike j c.if-set-lt57.true (omega (arith, low, high, c.min.ensures))
