use Rattle.std.proofs.Common.{◌∙◌}
use Rattle.arrow_schema.proofs.Counting.{next_field}
use Rattle.arrow_schema.proofs.limits.+totals.Goals as goal

pub totals_fields-loop-field-preserved : goal.totals_fields-loop-field-preserved
totals_fields-loop-field-preserved t c =
    next_field c.loop-field.totals c.totals_field.new.totals c.args.fields.now c.loop-field.field-index c.field-item.result c.loop-field-test.true c.field-item.is c.totals_field.ensures ∙ c.loop-field.invariant
