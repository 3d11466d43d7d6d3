use Rattle.std.proofs.Common.{◌≡◌, ◌≢◌, ℕ, ◌+◌, ◌-◌, ◌/◌, ◌≤◌, ◌==◌, Bool, List, length, take, drop, sym, ap, ◌∙◌, arith, w8}
use Rattle.std.specs.Prelude.{◌||◌}
use Rattle.std.proofs.lemmas.Bool.{eqb-false}
use Rattle.std.proofs.lemmas.List.{length-drop, take_all}
use Rattle.byteorder.specs.Endian.{little_number}
use Rattle.std.proofs.lemmas.Nat.Bits.{bit_at_ones}
use Rattle.std.proofs.lemmas.Simd.{chunk-fits, below_from_Fits}
use Rattle.bitmap.specs.Bits.{bit}
use Rattle.query.proofs.Masked.{bit_here}
use Rattle.std.specs.Int.{bit_at}
use Rattle.query.proofs.blocks.valid_slots.Goals as goal

pub returns-then-is_empty : goal.returns-then-is_empty
returns-then-is_empty c = λ j h.
    ap (λ b. b == 1) (bit_at_ones 64 j (omega (arith, h, c.requires.most)))
    ∙ ap (λ (t : Bool). t || bit c.args.validity.now (c.args.first + j)) c.if-is_empty.ensures

pub returns : goal.returns
returns c = λ j h.
    let validity = c.args.validity.now in
    let first = c.args.first in
    let n = c.args.slots / 8 in
    let some : length validity ≢ 0 = eqb-false (length validity) 0 (sym c.if-is_empty.ensures) in
    let room : n ≤ length (drop (first / 8) validity) = omega (arith, length-drop (first / 8) validity, c.requires.begins, c.requires.bytes, c.requires.least, c.requires.room (omega (arith, some))) in
    let fit = below_from_Fits w8 (take n (drop (first / 8) validity)) (chunk-fits w8 (first / 8) n validity c.type_inv.validity) in
    let rest = drop (first / 8) validity in
    let whole : take (length validity - first / 8) rest ≡ rest = take_all (length validity - first / 8) rest (omega (arith, length-drop (first / 8) validity)) in
    ap (λ x. bit_at x j == 1) c.read_uint.ensures
    ∙ ap (λ (bytes : List ℕ). bit_at (little_number n bytes) j == 1) whole
    ∙ bit_here n first j validity c.requires.begins (omega (arith, h, c.requires.bytes)) room fit
    ∙ ap (λ (t : Bool). t || bit validity (first + j)) c.if-is_empty.ensures
