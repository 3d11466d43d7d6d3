use Rattle.std.specs.List.{range_with_len}
use Rattle.std.specs.Simd.Lanes.{mask_l}
use Rattle.std.proofs.Common.{◌≡◌, ℕ, ◌+◌, ◌*◌, ◌/◌, ◌%◌, ◌^◌, List, map, get_or, sym, ap, ◌∙◌, arith}
use Rattle.std.proofs.lemmas.List.FromFn.{length-map-range_with_len}
use Rattle.bitmap.specs.Bits.{bit}
use Rattle.bitmap.proofs.Parts.{bits_of_byte, shifted}
use Rattle.bitmap.proofs.building.MaskBuilder.push_in_byte.Goals as goal

pub returns-clause-ok : goal.returns-clause-ok
returns-clause-ok c =
    let mask : List ℕ = c.args.mask.now in
    let from : ℕ = c.args.from in
    let count : ℕ = c.args.count in
    let place : from ≡ 8 * (from / 8) + from % 8 = omega arith in
    let number : mask_l (map (bit mask) (range_with_len from count)) ≡ get_or mask (from / 8) 0 / 2 ^ (from % 8) % 2 ^ count =
    ap (λ (i : ℕ). mask_l (map (bit mask) (range_with_len i count))) place ∙ bits_of_byte mask (from / 8) count (from % 8) c.requires.of_one_byte in
    c.push_word.ensures.ok (map (bit mask) (range_with_len from count)) (length-map-range_with_len (bit mask) from count)
    (number ∙ ap (λ (word : ℕ). word % 2 ^ count) (sym c.from.ensures) ∙ ap (λ (size : ℕ). c.from.result % size) (sym (shifted count (omega (arith, c.requires.of_one_byte)))))
