use Rattle.std.proofs.Common.{sym, ◌∙◌}
use Rattle.arrays.proofs.MayFind.{field_found, field_not_found, no_field_left}
use Rattle.arrays.proofs.visible.may_find.+may_find.Goals as goal

pub any_may_find-returns-then-may_find : goal.any_may_find-returns-then-may_find
any_may_find-returns-then-may_find t c =
    sym (field_found c.args.test c.args.fields.now c.loop-field.field-index c.field-item.result c.loop-field-test.true c.field-item.is (sym c.may_find.ensures ∙ c.if-may_find.true)) ∙ c.loop-field.invariant

pub any_may_find-loop-field-preserved : goal.any_may_find-loop-field-preserved
any_may_find-loop-field-preserved t c =
    field_not_found c.args.test c.args.fields.now c.loop-field.field-index c.field-item.result c.loop-field-test.true c.field-item.is (sym c.may_find.ensures ∙ c.if-may_find.false) ∙ c.loop-field.invariant

pub any_may_find-returns : goal.any_may_find-returns
any_may_find-returns t c = sym (no_field_left c.args.test c.args.fields.now c.loop-field.field-index c.loop-field-test.false) ∙ c.loop-field.invariant
