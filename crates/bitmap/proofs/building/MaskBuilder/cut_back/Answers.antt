use Rattle.std.proofs.Common.{◌≡◌, ℕ, ◌-◌, ◌*◌, Bool, List, length, take, ap, ◌∙◌, arith}
use Rattle.std.proofs.lemmas.List.{length-take}
use Rattle.bitmap.specs.Bits.{bytes_of, packed}
use Rattle.bitmap.specs.laws.Packed.{length-packed_in}
use Rattle.bitmap.proofs.Builds.{built_packed, length_within, within_packed}
use Rattle.bitmap.proofs.building.MaskBuilder.cut_back.Goals as goal

pub cut-requires-clause-shorter : goal.cut-requires-clause-shorter
cut-requires-clause-shorter c =
    omega (arith, length_within c.self.inside.bytes.items c.self.inside.free, ap length c.self.view_is, c.requires.shorter, c.requires.few, c.requires.within, c.self.invariant.within)

pub invariant_of-self : goal.invariant_of-self
invariant_of-self c =
    let new : List ℕ = c.cut.new.bytes.items in
    let bits : List Bool = take (8 * c.args.size - c.args.free) c.args.self.now in
    let is : new ≡ packed bits = c.cut.ensures c.args.self.now (c.self.invariant.exact ∙ ap packed c.self.view_is) c.requires.shorter in
    let kept : length bits ≡ 8 * c.args.size - c.args.free = omega (arith, length-take (8 * c.args.size - c.args.free) c.args.self.now, c.requires.shorter) in
    let long : length new ≡ bytes_of (length bits) = ap length is ∙ length-packed_in (bytes_of (length bits)) bits in
    built_packed bits new c.args.free is c.requires.few (omega (arith, long, kept, c.requires.few, c.requires.within))

pub returns : goal.returns
returns c =
    let new : List ℕ = c.cut.new.bytes.items in
    let bits : List Bool = take (8 * c.args.size - c.args.free) c.args.self.now in
    let is : new ≡ packed bits = c.cut.ensures c.args.self.now (c.self.invariant.exact ∙ ap packed c.self.view_is) c.requires.shorter in
    let kept : length bits ≡ 8 * c.args.size - c.args.free = omega (arith, length-take (8 * c.args.size - c.args.free) c.args.self.now, c.requires.shorter) in
    let long : length new ≡ bytes_of (length bits) = ap length is ∙ length-packed_in (bytes_of (length bits)) bits in
    within_packed bits new c.args.free is (omega (arith, long, kept, c.requires.few, c.requires.within))
