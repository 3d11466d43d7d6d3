use Rattle.std.specs.Prelude.{ℕ, is_some}
use Rattle.std.specs.List.{list_any, range_with_len}
use Rattle.std.proofs.Common.{◌≡◌, ◌+◌, ◌-◌, Bool, true, false, arith, ap, sym, ◌∙◌}
use Rattle.std.proofs.lemmas.Bool.{and_parts}
use Rattle.arrow_schema.specs.View.{index_of}
use Rattle.columns.specs.CellAt.{index_at}
use Rattle.columns.specs.View.{view_array}
use Rattle.columns.specs.Visible.{is_past}
use Rattle.arrays.proofs.Ranges.{any-later, any-end}
use Rattle.arrays.proofs.VisibleSlots.{found_not_past}
use Rattle.arrays.proofs.visible.indices.are_below.Goals as goal

pub loop-i-init : goal.loop-i-init
loop-i-init g c = λ below cells few.
    let all : c.args.from + c.args.count - c.args.from ≡ c.args.count = omega arith in
    ap (λ (n : ℕ). list_any (λ i. is_past (index_at (index_of c.args.slots.spec) (view_array c.args.slots.view) i) cells) (range_with_len c.args.from n)) all

pub loop-i-preserved : goal.loop-i-preserved
loop-i-preserved g c = λ below cells few.
    let past : ℕ → Bool = λ i. is_past (index_at (index_of c.args.slots.spec) (view_array c.args.slots.view) i) cells in
    let both = and_parts c.loop-i.below c.is_some-below.result below in
    let found : is_some c.number_below-number.result ≡ true = sym c.is_some-below.ensures ∙ both.1 in
    let here : past c.loop-i.i ≡ false =
    found_not_past (index_at (index_of c.args.slots.spec) (view_array c.args.slots.view) c.loop-i.i) cells c.args.limit c.number_below-number.result few found c.number_below-number.ensures.below c.number_below-number.ensures.named in
    any-later past c.loop-i.i (c.args.from + c.args.count) (omega arith) here ∙ c.loop-i.invariant both.0 cells few

pub returns : goal.returns
returns g c = λ below cells few.
    let past : ℕ → Bool = λ i. is_past (index_at (index_of c.args.slots.spec) (view_array c.args.slots.view) i) cells in
    sym (c.loop-i.invariant below cells few) ∙ any-end past c.loop-i.i (c.args.from + c.args.count) (omega arith)
