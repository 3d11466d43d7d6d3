use Rattle.std.proofs.lemmas.Option.{IfSome_then}
use Rattle.text_columns.proofs.PlainRows.{header_passed}
use Rattle.text_columns.proofs.plain.push_plain_text.Goals as goal

pub returns : goal.returns
returns c =
    let passed = c.in-Some.ensures in
    IfSome_then c.in_ok-read.read c.in_ok-read.ensures
    (λ read rows header records is holds.
    rows records (header_passed c.args.text.now c.behind_mark.result c.skip_ends-header.result c.in-Some.from header records c.behind_mark.ensures.rest c.skip_ends-header.ensures passed is) holds)
