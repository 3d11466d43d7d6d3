use Rattle.std.specs.Prelude.{not}
use Rattle.std.proofs.Common.{◌∙◌, ap, arith, sym}
use Rattle.text_columns.specs.inner.Plain.{ends_field}
use Rattle.text_columns.proofs.PlainText.{one_between}
use Rattle.text_columns.proofs.plain.field_end.Goals as goal

pub loop-i-preserved : goal.loop-i-preserved
loop-i-preserved c =
    one_between (λ b. not (ends_field b)) c.args.text.now c.args.from c.loop-i.i (omega (arith, c.loop-i.auto.i)) c.loop-i-test.true (ap not (sym c.ends_field.ensures ∙ c.if-ends_field.false)) c.loop-i.invariant
