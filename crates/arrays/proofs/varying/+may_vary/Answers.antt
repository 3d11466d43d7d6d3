use Rattle.std.proofs.Common.{sym, ◌∙◌}
use Rattle.arrays.proofs.SameWeights.{field_varies, field_same, none_left}
use Rattle.arrays.proofs.varying.+may_vary.Goals as goal

pub any_may_vary-returns-then-may_vary_in : goal.any_may_vary-returns-then-may_vary_in
any_may_vary-returns-then-may_vary_in t c =
    sym (field_varies c.args.fields.now c.loop-field.field-index c.field-item.result c.loop-field-test.true c.field-item.is (sym c.may_vary_in.ensures ∙ c.if-may_vary_in.true)) ∙ c.loop-field.invariant

pub any_may_vary-loop-field-preserved : goal.any_may_vary-loop-field-preserved
any_may_vary-loop-field-preserved t c =
    field_same c.args.fields.now c.loop-field.field-index c.field-item.result c.loop-field-test.true c.field-item.is (sym c.may_vary_in.ensures ∙ c.if-may_vary_in.false) ∙ c.loop-field.invariant

pub any_may_vary-returns : goal.any_may_vary-returns
any_may_vary-returns t c = sym (none_left c.args.fields.now c.loop-field.field-index c.loop-field-test.false) ∙ c.loop-field.invariant
