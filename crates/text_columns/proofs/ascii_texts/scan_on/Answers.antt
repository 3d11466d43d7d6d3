use Rattle.std.specs.Prelude.{not}
use Rattle.std.proofs.Common.{◌≡◌, ℕ, ◌∙◌, ap, arith, length, subst, sym}
use Rattle.text_columns.specs.inner.Plain.{IsScanned}
use Rattle.text_columns.proofs.AsciiTexts.{one_scanned, text_scanned}
use Rattle.text_columns.proofs.ascii_texts.scan_on.Goals as goal

pub loop-i-preserved : goal.loop-i-preserved
loop-i-preserved c =
    one_scanned c.args.text.now c.args.from c.loop-i.i c.loop-i.bits (omega (arith, c.loop-i.auto.i, c.requires.low)) c.loop-i-test.true (ap not (sym c.ends_field.ensures ∙ c.if-ends_field.false)) c.loop-i.invariant

pub returns-then-ends_field : goal.returns-then-ends_field
returns-then-ends_field c =
    text_scanned c.args.text.now c.args.from c.loop-i.i c.loop-i.bits c.loop-i.invariant (omega (arith, c.loop-i.auto.i, c.requires.low)) (omega (arith, c.loop-i-test.true)) (λ lt. sym c.ends_field.ensures ∙ c.if-ends_field.true)

pub returns : goal.returns
returns c =
    let all : c.loop-i.i ≡ length c.args.text.now = omega (arith, c.loop-i-test.false, c.loop-i.auto.i-end, c.requires.high) in
    let whole = subst (λ (n : ℕ). IsScanned c.args.text.now c.args.from n c.loop-i.bits) all c.loop-i.invariant in
    text_scanned c.args.text.now c.args.from (length c.args.text.now) c.loop-i.bits whole (omega (arith, c.requires.low, c.requires.high)) (omega arith) (λ lt. absurd (omega arith))
