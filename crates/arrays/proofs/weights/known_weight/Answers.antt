use Rattle.std.proofs.Common.{◌≡◌, true, false, arith, sym, ◌∙◌}
use Rattle.arrow_schema.specs.View.{index_of}
use Rattle.columns.specs.CellAt.{is_valid}
use Rattle.columns.specs.View.{view_array}
use Rattle.arrays.specs.inner.EntryWeights.{weights_in}
use Rattle.arrays.proofs.SpanWeights.{known_weight}
use Rattle.arrays.proofs.weights.known_weight.Goals as goal

pub returns-then-not-is_valid : goal.returns-then-not-is_valid
returns-then-not-is_valid g c = λ kind known is.
    let hidden : is_valid (view_array c.args.slots.view) c.args.i ≡ false = sym c.is_valid.ensures ∙ c.if-not-is_valid.true in
    rw hidden is

pub returns-in-Some : goal.returns-in-Some
returns-in-Some g c = λ kind known is.
    let valid : is_valid (view_array c.args.slots.view) c.args.i ≡ true = sym c.is_valid.ensures ∙ c.if-not-is_valid.false in
    c.at.ensures ∙ known_weight kind (index_of c.args.slots.spec) (view_array c.args.slots.view) c.args.i c.in-Some.number (weights_in c.args.known) valid (sym c.in-Some.ensures.named) known (omega (arith, c.in-Some.ensures.below, c.requires.all))
