use Rattle.std.proofs.Common.{◌≡◌, ℕ, ◌+◌, ◌-◌, ◌*◌, ◌%◌, ◌^◌, List, length, get_or, take, drop, ap, ◌∙◌, arith}
use Rattle.std.specs.Prelude.{set}
use Rattle.std.proofs.lemmas.List.{take_at}
use Rattle.bitmap.specs.Bits.{packed}
use Rattle.bitmap.proofs.Cuts.{cut_part, cut_whole}
use Rattle.bitmap.proofs.building.cut.Goals as goal

pub returns-then-free-gt0 : goal.returns-then-free-gt0
returns-then-free-gt0 c = λ bits is within.
    let size : ℕ = c.args.size in
    let free : ℕ = c.args.free in
    let left : List ℕ = c.truncate.new.self.items in
    let new : List ℕ = c.clear.new.bytes in
    let whole = take_at new (drop (length new) left) c.truncate.new.self.len (omega arith) in
    let next : size ≡ (size - 1) + 1 = omega (arith, c.requires.within, c.if-free-gt0.true) in
    let kept : 8 * (size - 1) + (8 - free) ≡ 8 * size - free = omega (arith, c.requires.few, c.requires.within, c.if-free-gt0.true) in
    let bytes : left ≡ take ((size - 1) + 1) (packed bits) = c.truncate.ensures.items ∙ ap (take size) is ∙ ap (λ (n : ℕ). take n (packed bits)) next in
    whole
    ∙ c.clear.ensures
    ∙ ap (λ (bs : List ℕ). set bs (size - 1) (get_or bs (size - 1) 0 % 2 ^ (8 - free))) (c.as_mut_slice.ensures.value ∙ bytes)
    ∙ cut_part (size - 1) (8 - free) bits (omega (arith, kept, within)) (omega (arith, c.requires.few)) (omega (arith, c.if-free-gt0.true))
    ∙ ap (λ (n : ℕ). packed (take n bits)) kept

pub returns-else-free-gt0 : goal.returns-else-free-gt0
returns-else-free-gt0 c = λ bits is within.
    let size : ℕ = c.args.size in
    let kept : 8 * size ≡ 8 * size - c.args.free = omega (arith, c.if-free-gt0.false) in
    c.truncate.ensures.items ∙ ap (take size) is ∙ cut_whole size bits (omega (arith, kept, within)) ∙ ap (λ (n : ℕ). packed (take n bits)) kept
