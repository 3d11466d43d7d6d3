use Rattle.std.specs.Prelude.{◌%◌}
use Rattle.std.proofs.Common.{◌∙◌, ℕ, ap, arith}
use Rattle.bitmap.proofs.BitNumbers.{low_bits, power}
use Rattle.bitmap.proofs.reading.bits_at.Goals as goal

pub returns : goal.returns
returns c =
    let number : ℕ = c.next_bits.result in
    ap (λ (n : ℕ). number % n) (power c.args.count c.requires.few)
    ∙ low_bits c.args.bytes.now c.args.from number c.args.count (λ j lt. c.next_bits.ensures.bits j (omega (arith, lt, c.requires.few)) (omega (arith, lt, c.requires.within)))
