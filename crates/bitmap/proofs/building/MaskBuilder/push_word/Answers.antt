use Rattle.std.proofs.Common.{◌≡◌, ◌+◌, ◌-◌, ◌%◌, Bool, List, ◌++◌, length, ap, ◌∙◌, arith}
use Rattle.bitmap.specs.Bits.{packed}
use Rattle.bitmap.specs.inner.Building.{bits_within}
use Rattle.bitmap.proofs.Builds.{lowest, length_lowest, mask_lowest, built_packed, within_packed, free_after}
use Rattle.bitmap.proofs.building.MaskBuilder.push_word.Goals as goal

pub invariant_of-self-2 : goal.invariant_of-self-2
invariant_of-self-2 c =
    let old = c.self.inside.bytes.items in
    let new = c.add_bits.new.bytes.items in
    let free = c.self.inside.free in
    let count = c.args.count in
    let bits = lowest count c.args.word in
    let size : length bits ≡ count = length_lowest count c.args.word in
    let is : new ≡ packed (bits_within old free ++ bits) = c.in_ok-add_bits.ensures.ok bits size (mask_lowest count c.args.word c.requires.word) in
    built_packed (bits_within old free ++ bits) new ((free + 64 - count) % 8) is (omega arith) (free_after old new bits free count c.self.invariant c.requires.count size is)

pub returns-clause-ok : goal.returns-clause-ok
returns-clause-ok c = λ bits size same.
    let old = c.self.inside.bytes.items in
    let new = c.add_bits.new.bytes.items in
    let free = c.self.inside.free in
    let count = c.args.count in
    let is : new ≡ packed (bits_within old free ++ bits) = c.in_ok-add_bits.ensures.ok bits size same in
    within_packed (bits_within old free ++ bits) new ((free + 64 - count) % 8) is (free_after old new bits free count c.self.invariant c.requires.count size is)
    ∙ ap (λ (xs : List Bool). xs ++ bits) c.self.view_is
