use Rattle.std.specs.Prelude.{bit_or, not, slice_index}
use Rattle.std.proofs.Common.{◌≡◌, ℕ, ◌∙◌, ◌+◌, ◌<◌, ap, arith, length, subst, sym}
use Rattle.text_columns.specs.inner.Plain.{IsScanned}
use Rattle.text_columns.proofs.AsciiTexts.{none_scanned, one_scanned}
use Rattle.text_columns.proofs.ascii_texts.scan_sixteen.Goals as goal

pub loop-k-init : goal.loop-k-init
loop-k-init c =
    let start : c.args.from + 0 ≡ c.args.from = omega arith in
    subst (λ (n : ℕ). IsScanned c.args.text.now c.args.from n 0) (sym start) (none_scanned c.args.text.now c.args.from)

pub loop-k-preserved : goal.loop-k-preserved
loop-k-preserved c =
    let text = c.args.text.now in
    let at = c.args.from + c.loop-k.k in
    let inside : at < length text = omega (arith, c.loop-k-test.true, c.requires) in
    let next : at + 1 ≡ c.args.from + (c.loop-k.k + 1) = omega arith in
    subst (λ (n : ℕ). IsScanned text c.args.from n (bit_or c.loop-k.bits (slice_index text at))) next
    (one_scanned text c.args.from at c.loop-k.bits (omega arith) inside (ap not (sym c.ends_field.ensures ∙ c.if-ends_field.false)) c.loop-k.invariant)

pub returns-then-ends_field-clause-stops : goal.returns-then-ends_field-clause-stops
returns-then-ends_field-clause-stops c = λ lt. sym c.ends_field.ensures ∙ c.if-ends_field.true

pub returns-clause-scanned : goal.returns-clause-scanned
returns-clause-scanned c =
    let all : c.args.from + c.loop-k.k ≡ c.args.from + 16 = omega (arith, c.loop-k-test.false, c.loop-k.auto.k-end) in
    subst (λ (n : ℕ). IsScanned c.args.text.now c.args.from n c.loop-k.bits) all c.loop-k.invariant
