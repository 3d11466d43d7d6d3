use Rattle.std.specs.Prelude.{not, ◌&&◌, ◌==◌, nat_lt}
use Rattle.std.proofs.Common.{◌≡◌, ℕ, Bool, true, false, List, length, ap, sym, ◌∙◌}
use Rattle.bitmap.specs.Bits.{count_of}
use Rattle.columns.specs.View.{view_array}
use Rattle.arrays.proofs.VisibleSlots.{unset_if}
use Rattle.arrays.proofs.visible.nulls.any_unset.Goals as goal

pub returns-then-not-is_empty : goal.returns-then-not-is_empty
returns-then-not-is_empty c =
    let v : List ℕ = c.validity-validity.result.now in
    let some : (length v == 0) ≡ false = sym c.is_empty.ensures ∙ c.if-not-is_empty.true in
    ap (λ (n : ℕ). nat_lt n c.args.count) c.count_set.ensures.exact
    ∙ sym (unset_if v (view_array c.args.view) c.args.from c.args.count c.validity-validity.ensures ∙ ap (λ (b : Bool). not b && nat_lt (count_of v c.args.from c.args.count) c.args.count) some)

pub returns-else-not-is_empty : goal.returns-else-not-is_empty
returns-else-not-is_empty c =
    let v : List ℕ = c.validity-validity.result.now in
    let none : (length v == 0) ≡ true = sym c.is_empty.ensures ∙ c.if-not-is_empty.false in
    ap not c.if-not-is_empty.false
    ∙ sym (unset_if v (view_array c.args.view) c.args.from c.args.count c.validity-validity.ensures ∙ ap (λ (b : Bool). not b && nat_lt (count_of v c.args.from c.args.count) c.args.count) none)
