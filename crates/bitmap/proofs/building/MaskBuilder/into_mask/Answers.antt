use Rattle.std.proofs.Common.{List, ℕ, length, ap, ◌∙◌, arith}
use Rattle.bitmap.specs.Bits.{bit, bytes_of, packed}
use Rattle.bitmap.proofs.Packs.{bit_of_packed}
use Rattle.bitmap.proofs.building.MaskBuilder.into_mask.Goals as goal
use Rattle.bitmap.specs.laws.Packed.{length-packed_in}

pub returns-clause-bits : goal.returns-clause-bits
returns-clause-bits c = λ i.
    ap (λ (bytes : List ℕ). bit bytes i) (c.self.invariant.exact ∙ ap packed c.self.view_is) ∙ bit_of_packed (bytes_of (length c.args.self)) c.args.self (omega arith) i

pub returns-clause-length : goal.returns-clause-length
returns-clause-length c = ap length (c.self.invariant.exact ∙ ap packed c.self.view_is) ∙ length-packed_in (bytes_of (length c.args.self)) c.args.self
