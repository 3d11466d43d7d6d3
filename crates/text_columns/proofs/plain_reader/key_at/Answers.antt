use Rattle.std.proofs.Common.{◌≡◌, ◌<◌, ◌∙◌, ap, arith, get_or, length, sym}
use Rattle.text_columns.proofs.LineSteps.{begins_key}
use Rattle.text_columns.proofs.plain_reader.key_at.Goals as goal

pub returns : goal.returns
returns c =
    let d = c.args.line.now in
    let same = c.as_bytes-bytes.ensures.value in
    let found = c.in_ok-string in
    let colon = c.skip_spaces-colon in
    let within : colon.result < length d = omega (arith, c.if-colon-bytes.false, colon.ensures.high, ap length same) in
    let byte : get_or d colon.result 0 ≡ 58 = ap (λ xs. get_or xs colon.result 0) (sym same) ∙ c.if-bytes-colon-ne58.false in
    begins_key d c.args.from found.string.end colon.result found.string.text.now c.fresh-stand.result found.ensures (rw same at colon.ensures.same) within byte (rw same at c.fresh-stand.ensures.within)
    (rw same at c.fresh-stand.ensures.same)
