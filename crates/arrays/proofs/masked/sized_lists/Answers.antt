use Rattle.std.specs.Prelude.{None, Some, if◌then◌else◌}
use Rattle.std.proofs.Common.{◌≡◌, ◌∙◌, Bool, ℕ, false, refl, true, sym}
use Rattle.columns.specs.Offsets.{width_of}
use Rattle.arrays.proofs.SameWeights.{field_may_vary}
use Rattle.arrays.proofs.masked.sized_lists.Goals as goal

none_where : (vary : Bool) (width : ℕ) → vary ≡ true → None ≡ (if vary then None else Some width)
none_where true width is = refl
none_where false width is = absurd cc

some_where : (vary : Bool) (width : ℕ) → vary ≡ false → Some width ≡ (if vary then None else Some width)
some_where false width is = refl
some_where true width is = absurd cc

pub returns-then-may_vary-clause-width : goal.returns-then-may_vary-clause-width
returns-then-may_vary-clause-width c = none_where _ (width_of c.args.width) (field_may_vary c.args.item.now ∙ sym c.may_vary.ensures ∙ c.if-may_vary.true)

pub returns-clause-width : goal.returns-clause-width
returns-clause-width c = some_where _ (width_of c.args.width) (field_may_vary c.args.item.now ∙ sym c.may_vary.ensures ∙ c.if-may_vary.false)
