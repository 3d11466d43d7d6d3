use Rattle.std.specs.Prelude.{◌==◌, ◌&&◌, ◌%◌}
use Rattle.std.specs.Int.{bit_at}
use Rattle.std.specs.Int.Bits.{bit_and}
use Rattle.std.proofs.Common.{◌≡◌, ◌+◌, ◌<◌, ◌^◌, ℕ, Bool, ap, ap₂, arith, subst, sym, ◌∙◌}
use Rattle.std.proofs.lemmas.Nat.{mod_below, pow_pos}
use Rattle.columns.specs.Array.{slots_in}
use Rattle.columns.specs.CellAt.{is_valid}
use Rattle.columns.specs.View.{view_array}
use Rattle.columns.specs.declared.view.ArrayView.{ArrayView}
use Rattle.arrays.proofs.NextBits.{joined_bit, power}
use Rattle.arrays.proofs.masked.joined_bits.Goals as goal

pub returns : goal.returns
returns c =
    let n : ℕ = c.args.count in
    let mask : ℕ = c.next_bits.result in
    let own : ℕ = c.next_bits-2.result in
    let low = power n c.requires.few in
    record {
      few = subst (λ (m : ℕ). bit_and mask own % m < 2 ^ n) (sym low) (mod_below (bit_and mask own) (2 ^ n) (pow_pos n));
      bits = λ j lt.
          let other : is_valid (view_array c.valid.result.view) (c.args.from + j) ≡ is_valid (view_array c.args.slots.view) (c.args.from + j)
          = ap (λ (v : ArrayView). is_valid (view_array v) (c.args.from + j)) c.valid.ensures in
          let small : j < 56 = omega (arith, lt, c.requires.few) in
          ap (λ (m : ℕ). bit_at (bit_and mask own % m) j == 1) low
          ∙ joined_bit mask own n j lt
          ∙ ap₂ (λ (x y : Bool). x && y) (c.next_bits.ensures j small (omega (arith, lt, c.requires.below)))
          (c.next_bits-2.ensures j small (omega (arith, lt, c.requires.within, ap (λ (v : ArrayView). slots_in (view_array v)) c.valid.ensures)) ∙ other);
    }
