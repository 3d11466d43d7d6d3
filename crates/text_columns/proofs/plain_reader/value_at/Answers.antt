use Rattle.std.proofs.Common.{◌≡◌, ◌∙◌, ap, get_or, sym}
use Rattle.text_columns.proofs.LineSteps.{begins_array, begins_object, begins_scalar}
use Rattle.text_columns.proofs.plain_reader.value_at.Goals as goal

pub returns-then-byte-eq91 : goal.returns-then-byte-eq91
returns-then-byte-eq91 c =
    let d = c.args.line.now in
    let same = c.as_bytes-bytes.ensures.value in
    let byte : get_or d c.args.from 0 ≡ 91 = ap (λ xs. get_or xs c.args.from 0) (sym same) ∙ c.if-byte-eq91.true in
    begins_array d c.args.from c.fresh-stand.result c.requires (rw same at c.fresh-stand.ensures.within) (rw same at c.fresh-stand.ensures.same) byte

pub returns-then-byte-eq123 : goal.returns-then-byte-eq123
returns-then-byte-eq123 c =
    let d = c.args.line.now in
    let same = c.as_bytes-bytes.ensures.value in
    let byte : get_or d c.args.from 0 ≡ 123 = ap (λ xs. get_or xs c.args.from 0) (sym same) ∙ c.if-byte-eq123.true in
    begins_object d c.args.from c.fresh-inside.result c.requires (rw same at c.fresh-inside.ensures.within) (rw same at c.fresh-inside.ensures.same) byte

pub returns : goal.returns
returns c =
    let same = c.as_bytes-bytes.ensures.value in
    let found = c.in_ok-scalar in
    begins_scalar c.args.line.now c.args.from found.scalar.end _ c.in_ok-stand.stand found.ensures.lexeme found.ensures.scalar (rw same at c.in_ok-stand.ensures)
