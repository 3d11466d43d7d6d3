use Rattle.std.proofs.Common.{arith}
use Rattle.text_columns.proofs.AsciiTexts.{none_scanned, text_scanned}
use Rattle.text_columns.proofs.ascii_texts.text_field.Goals as goal

pub scan_on-requires-clause-scanned : goal.scan_on-requires-clause-scanned
scan_on-requires-clause-scanned c = none_scanned c.args.text.now c.args.from

pub returns-then-field-from : goal.returns-then-field-from
returns-then-field-from c =
    let s = c.scan_sixteen-field.ensures in
    let end = c.scan_sixteen-field.result.end in
    text_scanned c.args.text.now c.args.from end c.scan_sixteen-field.result.bits s.scanned s.low (omega (arith, s.high, c.if-text-from-lt16.false)) (λ _. s.stops c.if-field-from.true)
