use Rattle.std.proofs.Common.{◌≡◌, ℕ, ◌+◌, ◌-◌, ap, ◌∙◌}
use Rattle.cells.specs.Weight.{capped_weight}
use Rattle.columns.specs.Array.{Array, offsets_in}
use Rattle.columns.specs.CellAt.{number_at, span_start}
use Rattle.columns.specs.Offsets.{width_of}
use Rattle.columns.specs.View.{view_array}
use Rattle.arrays.proofs.KindWeights.{texts_weigh, large_texts_weigh, binaries_weigh, large_binaries_weigh}
use Rattle.arrays.proofs.weights.contents_weight.Goals as goal

pub returns : goal.returns
returns c =
    let a : Array = view_array c.args.view in
    let w : ℕ = width_of c.args.width in
    let from : ℕ = c.args.from in
    let n : ℕ = c.args.count in
    let all : c.add_weights.result ≡ capped_weight (n + (number_at w (offsets_in a) (from + n) - span_start w a from)) = c.add_weights.ensures ∙ ap (λ (m : ℕ). capped_weight (n + m)) c.spanned.ensures.size in
    record {
      texts = λ e. all ∙ ap capped_weight (texts_weigh w a from n c.requires.ordered c.requires.some c.requires.within e);
      large_texts = λ e. all ∙ ap capped_weight (large_texts_weigh w a from n c.requires.ordered c.requires.some c.requires.within e);
      binaries = λ e. all ∙ ap capped_weight (binaries_weigh w a from n c.requires.ordered c.requires.some c.requires.within e);
      large_binaries = λ e. all ∙ ap capped_weight (large_binaries_weigh w a from n c.requires.ordered c.requires.some c.requires.within e);
    }
