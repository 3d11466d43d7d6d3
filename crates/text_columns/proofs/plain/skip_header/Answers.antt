use Rattle.std.specs.Prelude.{not, ◌||◌, ◌==◌}
use Rattle.std.proofs.Common.{◌∙◌, arith, refl, sym}
use Rattle.std.proofs.lemmas.Bool.{ne_eqb}
use Rattle.text_columns.specs.inner.Plain.{ends_line}
use Rattle.text_columns.proofs.PlainText.{one_between}
use Rattle.text_columns.proofs.plain.skip_header.Goals as goal

pub loop-i-preserved : goal.loop-i-preserved
loop-i-preserved c =
    let line = sym c.ends_line.ensures ∙ c.if-ends_line.false in
    let quote = ne_eqb _ 34 c.if-text-i-eq34.false in
    one_between (λ b. not (ends_line b || (b == 34))) c.args.text.now c.args.from c.loop-i.i (omega (arith, c.loop-i.auto.i)) c.loop-i-test.true (rw (line, quote) refl) c.loop-i.invariant
