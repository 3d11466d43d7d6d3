use Rattle.std.specs.Prelude.{◌==◌, ◌&&◌, if◌then◌else◌}
use Rattle.std.specs.Int.{bit_at}
use Rattle.std.proofs.Common.{ℕ, Bool, ◌+◌, ◌-◌, ◌≡◌, arith, ap, ◌∙◌}
use Rattle.columns.specs.Array.{Array}
use Rattle.columns.specs.CellAt.{is_valid, span_size}
use Rattle.columns.specs.Offsets.{width_of}
use Rattle.columns.specs.View.{view_array}
use Rattle.arrays.specs.inner.Weights.{chosen_sizes, masked_sizes}
use Rattle.arrays.proofs.MaskedSizes.{sizes_more, sizes_same}
use Rattle.arrays.proofs.masked.masked_sizes.Goals as goal

pub loop-start-preserved : goal.loop-start-preserved
loop-start-preserved c =
    let a : Array = view_array c.args.slots.view in
    let mask : Array = view_array c.args.mask.view in
    let w : ℕ = width_of c.args.slots.width in
    let start : ℕ = c.loop-start.start in
    let some : ℕ = c.min-some.result in
    let bits : ℕ = c.joined_bits-bits.result in
    let own : ℕ → ℕ = λ i. if is_valid mask i && is_valid a i then span_size w a i else 0 in
    let least = c.min-some.ensures in
    let width : start + some - start ≡ some = omega arith in
    let same : chosen_sizes w bits start a start some ≡ masked_sizes w mask a start some = sizes_same (λ i. if bit_at bits (i - start) == 1 then span_size w a i else 0) own start some (λ i le lt.
    let place : start + (i - start) ≡ i = omega (arith, le) in
    ap (λ (b : Bool). if b then span_size w a i else 0) (c.joined_bits-bits.ensures.bits (i - start) (omega (arith, le, lt)) ∙ ap (λ (k : ℕ). is_valid mask k && is_valid a k) place)) in
    let more = rw width at (sizes_more own start (start + some) (c.args.from + c.args.count) (omega arith) (omega (arith, least, c.loop-start-test.true))) in
    let total = c.add_weights-total.ensures in
    record {
      low = omega (arith, c.loop-start.invariant.low);
      within = omega (arith, least, c.loop-start-test.true);
      sums = omega (arith, c.loop-start.invariant.sums, more, same, c.sizes_of.ensures, total);
      capped = omega (arith, total);
    }

pub returns : goal.returns
returns c =
    let none : c.args.from + c.args.count - c.loop-start.start ≡ 0 = omega (arith, c.loop-start-test.false) in
    let left : masked_sizes (width_of c.args.slots.width) (view_array c.args.mask.view) (view_array c.args.slots.view) c.loop-start.start (c.args.from + c.args.count - c.loop-start.start) ≡ 0
    = ap (λ (n : ℕ). masked_sizes (width_of c.args.slots.width) (view_array c.args.mask.view) (view_array c.args.slots.view) c.loop-start.start n) none in
    omega (arith, left, c.loop-start.invariant.sums, c.loop-start.invariant.capped)
