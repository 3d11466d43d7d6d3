use Rattle.std.proofs.Common.{◌∙◌, arith, sym}
use Rattle.text_columns.specs.inner.Plain.{ends_line}
use Rattle.text_columns.proofs.PlainText.{one_between}
use Rattle.text_columns.proofs.plain.skip_ends.Goals as goal

pub loop-i-preserved : goal.loop-i-preserved
loop-i-preserved c =
    one_between ends_line c.args.text.now c.args.from c.loop-i.i (omega (arith, c.loop-i.auto.i)) c.loop-i-test.true (sym c.ends_line.ensures ∙ c.if-not-ends_line.false) c.loop-i.invariant
