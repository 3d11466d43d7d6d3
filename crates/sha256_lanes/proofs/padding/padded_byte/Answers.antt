use Rattle.std.proofs.Common.{◌≡◌, ℕ, ◌-◌, ◌*◌, ◌%◌, ◌^◌, length, slice_index, ap, sym, ◌∙◌, arith, w64}
use Rattle.std.specs.Int.{to_be_bytes}
use Rattle.sha256_lanes.proofs.Blocks.{padded_field}
use Rattle.sha256_lanes.proofs.padding.padded_byte.Goals as goal

pub returns : goal.returns
returns c =
    let m = c.args.message.now in
    let k = c.args.i - (64 * c.block_count.result - 8) in
    let bits : length m * 8 ≡ length m * 8 % 2 ^ 64 = omega arith in
    rw c.to_be_bytes-bits.ensures
    (ap (λ (n : ℕ). slice_index (to_be_bytes w64 n) k) bits ∙ sym (padded_field m c.args.i k (omega (arith, c.block_count.ensures.number))))
