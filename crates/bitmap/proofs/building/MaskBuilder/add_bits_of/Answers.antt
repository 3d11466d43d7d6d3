use Rattle.std.specs.List.{range_with_len}
use Rattle.std.proofs.Common.{◌≡◌, ℕ, ◌-◌, ◌*◌, ◌/◌, ◌%◌, ◌++◌, ◌≤◌, Bool, List, map, ap, ◌∙◌, arith}
use Rattle.std.proofs.lemmas.Result.{on_ok_weaker}
use Rattle.bitmap.specs.Bits.{bit}
use Rattle.bitmap.proofs.Parts.{joined}
use Rattle.bitmap.proofs.building.MaskBuilder.add_bits_of.Goals as goal

pub returns-clause-ok : goal.returns-clause-ok
returns-clause-ok c =
    let f : ℕ → Bool = bit c.args.mask.now in
    let old : List Bool = c.args.self.now in
    let from : ℕ = c.args.from in
    let to : ℕ = c.args.to in
    let first : ℕ = c.div_ceil-first.result in
    let end : ℕ = to / 8 in
    let before : from ≤ 8 * first = omega (arith, c.div_ceil-first.ensures) in
    let order : 8 * first ≤ 8 * end = omega (arith, c.if-end-first.false) in
    let through : from ≤ 8 * end = omega (arith, before, order) in
    let after : 8 * end ≤ to = omega arith in
    let size : 8 * (end - first) ≡ 8 * end - 8 * first = omega (arith, c.if-end-first.false) in
    let left : to % 8 ≡ to - 8 * end = omega arith in
    on_ok_weaker c.push_in_byte-3.result
    (λ last. last
    ∙ ap (λ (n : ℕ). c.push_bytes.new.self ++ map f (range_with_len (8 * end) n)) left
    ∙ ap (λ (bits : List Bool). bits ++ map f (range_with_len (8 * end) (to - 8 * end)))
    (c.in_ok-push_bytes.ensures.ok
    ∙ ap (λ (n : ℕ). c.push_in_byte-2.new.self ++ map f (range_with_len (8 * first) n)) size
    ∙ ap (λ (bits : List Bool). bits ++ map f (range_with_len (8 * first) (8 * end - 8 * first))) c.in_ok-push_in_byte.ensures.ok
    ∙ joined f old from (8 * first) (8 * end) before order)
    ∙ joined f old from (8 * end) to through after)
    c.push_in_byte-3.ensures.ok
