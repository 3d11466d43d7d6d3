use Rattle.std.specs.Prelude.{◌^◌, ◌%◌}
use Rattle.std.proofs.Common.{◌≡◌, ◌≤◌, ◌<◌, ◌+◌, ◌-◌, ◌*◌, ℕ, ap, arith, refl, ◌∙◌}
use Rattle.std.proofs.Math.Nat.{mod-eq_of_lt}
use Rattle.arrow_schema.specs.View.{index_of}
use Rattle.cells.specs.Weight.{capped_weight, kind_weight}
use Rattle.columns.specs.CellAt.{indexed_cell, unless_null}
use Rattle.columns.specs.View.{view_array}
use Rattle.arrays.specs.inner.Weights.{coded_weight}
use Rattle.arrays.proofs.SpanWeights.{slot_more}
use Rattle.arrays.proofs.weights.sized_total.Goals as goal

-- a part more, and what is left after it, of so few slots that the sum is below 2^64
next_sum : (whole total before part left weight new rest count : ℕ) → count ≤ 4294967296
    → (total + (rest + 1) * 268435457 ≤ count * 268435457) × (capped_weight (total + before) ≡ whole) → before ≡ part + left → weight ≡ capped_weight part
    → new ≡ (total + weight) % 2 ^ 64 → (new + rest * 268435457 ≤ count * 268435457) × (capped_weight (new + left) ≡ whole)
next_sum whole total before part left weight new rest count few sums more is total_is =
    let fits : total + weight < 2 ^ 64 = omega (arith, few, sums.0, is) in
    let same : new ≡ total + weight = total_is ∙ mod-eq_of_lt fits in
    (omega (arith, sums.0, is, same), omega (arith, sums.1, more, is, same))

pub loop-i-init : goal.loop-i-init
loop-i-init g c = λ kind known is.
    let sum : ℕ → ℕ = coded_weight c.args.slots.spec c.args.slots.view kind c.args.from in
    let all : c.args.from + c.args.count - c.args.from ≡ c.args.count = omega arith in
    let whole : 0 + sum c.args.count ≡ sum c.args.count = omega arith in
    (omega arith, ap (λ (n : ℕ). capped_weight (0 + sum n)) all ∙ ap capped_weight whole)

pub loop-i-preserved : goal.loop-i-preserved
loop-i-preserved g c = λ kind known is.
    let end : ℕ = c.args.from + c.args.count in
    let more = slot_more (kind_weight kind) (unless_null (indexed_cell (index_of c.args.slots.spec) kind) (view_array c.args.slots.view)) c.loop-i.i end c.loop-i-test.true in
    let one : end - c.loop-i.i ≡ end - (c.loop-i.i + 1) + 1 = omega (arith, c.loop-i-test.true) in
    let invariant = c.loop-i.invariant kind known is in
    next_sum _ _ _ _ _ _ _ (end - (c.loop-i.i + 1)) c.args.count (omega (arith, c.if-count-gt-MOST_SLOTS.false)) (omega (arith, one, invariant.0), invariant.1) more (c.in_ok-weight.ensures kind known is) refl

pub returns : goal.returns
returns g c = λ kind known is.
    let none : c.args.from + c.args.count - c.loop-i.i ≡ 0 = omega (arith, c.loop-i-test.false) in
    omega (arith, rw none at (c.loop-i.invariant kind known is).1, c.min.ensures)
