use Rattle.std.specs.Prelude.{◌==◌, ◌||◌}
use Rattle.std.specs.Int.{bit_at}
use Rattle.std.proofs.Common.{◌≡◌, ◌∙◌, ◌+◌, ◌-◌, ◌^◌, ℕ, List, true, ap, arith, length, sym}
use Rattle.std.proofs.lemmas.Bool.{or_left}
use Rattle.std.proofs.lemmas.Nat.Bits.{bit_at_ones}
use Rattle.bitmap.specs.Bits.{bit}
use Rattle.columns.specs.Array.{validity_in}
use Rattle.columns.specs.View.{view_array}
use Rattle.arrays.proofs.sized_slots.ValidSlots.next_bits.Goals as goal

pub returns-then-is_empty : goal.returns-then-is_empty
returns-then-is_empty c = λ j few lt.
    let validity : List ℕ = validity_in (view_array c.args.self.view) in
    let one : bit_at (2 ^ 64 - 1) j ≡ 1 = bit_at_ones 64 j (omega (arith, few)) in
    let empty : (length validity == 0) ≡ true = ap (λ (bits : List ℕ). length bits == 0) (sym c.args.self.bits) ∙ sym c.is_empty.ensures ∙ c.if-is_empty.true in
    ap (λ (x : ℕ). x == 1) one ∙ sym (or_left (length validity == 0) (bit validity (c.args.from + j)) empty)
