use Rattle.std.proofs.Common.{◌≡◌, ◌*◌, ℕ, arith, ap, ◌∙◌, mul_comm}
use Rattle.cells.specs.Weight.{capped_weight}
use Rattle.cells.specs.laws.Weights.{capped_product}
use Rattle.columns.specs.Offsets.{width_of}
use Rattle.columns.specs.View.{view_array}
use Rattle.arrays.specs.inner.Weights.{masked_sizes}
use Rattle.arrays.proofs.masked.masked_sizes_weight.Goals as goal

pub returns : goal.returns
returns c =
    let all : ℕ = masked_sizes (width_of c.args.sized.width) (view_array c.args.mask) (view_array c.args.view) c.args.from c.args.count in
    let unit : ℕ = c.args.sized.unit in
    let same : masked_sizes (width_of c.new-slots.result.width) (view_array c.new.result.view) (view_array c.new-slots.result.view) c.args.from c.args.count ≡ all
    = (λ i. masked_sizes (width_of (c.new-slots.ensures.width i)) (view_array (c.new.ensures i)) (view_array (c.new-slots.ensures.view i)) c.args.from c.args.count) in
    let sizes : c.masked_sizes-sizes.result ≡ capped_weight all = c.masked_sizes-sizes.ensures ∙ ap capped_weight same in
    let product : c.multiply_weight.result ≡ capped_weight (all * unit) = c.multiply_weight.ensures
    ∙ ap (λ (n : ℕ). capped_weight (n * unit)) sizes
    ∙ ap capped_weight (mul_comm (capped_weight all) unit)
    ∙ capped_product unit all
    ∙ ap capped_weight (mul_comm unit all) in
    omega (arith, c.add_weights.ensures, product)
