use Rattle.std.proofs.Common.{◌≡◌, ℕ, ◌-◌, ◌*◌, length, take, ap, ◌∙◌, arith}
use Rattle.bitmap.proofs.Builds.{length_within}
use Rattle.bitmap.proofs.Cuts.{begins_length}
use Rattle.bitmap.proofs.building.MaskBuilder.push_bits.Goals as goal

pub cut_back-requires-clause-shorter : goal.cut_back-requires-clause-shorter
cut_back-requires-clause-shorter c =
    omega (arith, length_within c.self.inside.bytes.items c.self.inside.free, ap length c.self.view_is, c.len-size.ensures, begins_length c.args.self.now c.add_bits_of.new.self c.in-Err.ensures.err)

pub returns-in-Err-clause-err : goal.returns-in-Err-clause-err
returns-in-Err-clause-err c =
    let size : 8 * c.len-size.result - c.self.inside.free ≡ length c.args.self.now =
    omega (arith, length_within c.self.inside.bytes.items c.self.inside.free, ap length c.self.view_is, c.len-size.ensures) in
    c.cut_back.ensures ∙ ap (λ (n : ℕ). take n c.add_bits_of.new.self) size ∙ c.in-Err.ensures.err
